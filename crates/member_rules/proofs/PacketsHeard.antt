-- What is known where a packet of messages is heard, and what comes of one that is taken.
use Rattle.std.proofs.Common.{◌≡◌, ℕ, Bool, true, false, ◌&&◌, Option, Some, List, subst}
use Rattle.std.proofs.lemmas.Bool.{and_parts}
use Rattle.std.specs.Option.{option_map_or}
use Rattle.address.specs.Ids.{Address, ViewId, same_address}
use Rattle.view.specs.Members.{stands_in}
use Rattle.state_transfer.specs.Meanings.{Meaning}
use Rattle.address.proofs.SameIds.{same_address-true, same_view_id-true}
use Rattle.wire_values.specs.Posted.{Posted}
use Rattle.step_output.specs.declared.output.Output.{Output}
use Rattle.traffic.specs.declared.follower.Follower.{Follower}
use Rattle.traffic.specs.declared.view_state.ViewState.{ViewState}
use Rattle.traffic.specs.declared.view_state.ViewState.TheVariants as kinds
use Rattle.traffic.specs.ViewStates.{view_of, view_core_of, follower_core}
use Rattle.traffic.specs.Goings.{Goes, FollowerGoes}
use Rattle.membership.specs.declared.member_state.MemberState.{MemberState}
use Rattle.membership.specs.MemberStates.{IsMemberState, view_in}
use Rattle.membership.specs.Doing.{Did}
use Rattle.member_rules.specs.Heard.{hears, is_of, is_follower_that}
use Rattle.member_rules.proofs.MembersAreOpen.{going_on, member_state-kept, goes-did, goes-same}
use Rattle.step_output.specs.Steps.{who}
use Rattle.traffic.specs.InViews.{in_view}
use Rattle.membership.specs.InSteps.{in_step}

pub record Heard {S : Type 0} (source : Address) (id : ViewId) (l : MemberState S) (t : ViewState) : Type 0 where
  pub promised : l.promise.is_installed ≡ true
  pub same : (view_of t).id ≡ id
  pub member : stands_in source (view_of t).members ≡ true

heard-by : {S : Type 0} (source : Address) (id : ViewId) (l : MemberState S) (t : ViewState) → l.view_state ≡ Some t → hears source id l ≡ true → Heard source id l t
heard-by source id l t there x =
    let both = and_parts l.promise.is_installed (option_map_or (is_of source id) (view_in l.view_state) false) x in
    let of : is_of source id (view_of t) ≡ true = subst (λ (o : Option ViewState). option_map_or (is_of source id) (view_in o) false ≡ true) there both.1 in
    let parts = and_parts _ (stands_in source (view_of t).members) of in
    record { promised = both.0; same = same_view_id-true _ _ parts.0; member = parts.1 }

-- where it is heard and more holds
pub heard-in : {S : Type 0} (source : Address) (id : ViewId) (l : MemberState S) (t : ViewState) (more : Bool) → l.view_state ≡ Some t → (hears source id l && more) ≡ true → Heard source id l t
heard-in source id l t more there x = heard-by source id l t there (and_parts (hears source id l) more x).0

-- it came from the coordinator of the view
pub from-in : {S : Type 0} (source : Address) (id : ViewId) (l : MemberState S) (m : Follower) (more : Follower → Bool) → l.view_state ≡ Some (kinds.Follower m)
    → (hears source id l && is_follower_that (λ o. same_address o.view.id.creator source && more o) l.view_state) ≡ true → m.view.id.creator ≡ source
from-in source id l m more there x =
    let both = and_parts (hears source id l) (is_follower_that (λ o. same_address o.view.id.creator source && more o) l.view_state) x in
    let here : (same_address m.view.id.creator source && more m) ≡ true = subst (λ (o : Option ViewState). is_follower_that (λ o. same_address o.view.id.creator source && more o) o ≡ true) there both.1 in
    same_address-true _ _ (and_parts (same_address m.view.id.creator source) (more m) here).0

pub heard-member_state : {S : Type 0} (source : Address) (id : ViewId) (group : List ℕ) (me : Address) (l : MemberState S) (t u : ViewState) (s : S) → IsMemberState (who me group) l
    → Heard source id l t → l.view_state ≡ Some t → view_of u ≡ view_of t
    → IsMemberState (who me group) (going_on l u s)
heard-member_state source id group me l t u s i h there same = member_state-kept group me l t u s i h.promised there same

module _ {S : Type 0} (meaning : Meaning S) where
  -- on a packet that names the view
  pub heard-did : (came : ViewId → Option Posted) (source : Address) (id : ViewId) (group : List ℕ) (me : Address) (l : MemberState S) (t u : ViewState) (s : S) (out later : Output) → IsMemberState (who me group) l
      → Heard source id l t → l.view_state ≡ Some t → view_of u ≡ view_of t → Goes meaning (came (view_of t).id) (who me group) (view_of t) (in_view (view_core_of t) l.receiver out) (in_view (view_core_of u) s later)
      → Did meaning (came id) (who me group) (in_step l out) (in_step (going_on l u s) later)
  heard-did came source id group me l t u s out later i h there same x =
      subst (λ (v : ViewId). Did meaning (came v) (who me group) (in_step l out) (in_step (going_on l u s) later)) h.same
      (goes-did meaning (came (view_of t).id) group me l t u s out later i h.promised there same x)

  -- nothing of it but what it puts out
  pub heard-same : (came : ViewId → Option Posted) (source : Address) (id : ViewId) (group : List ℕ) (me : Address) (l : MemberState S) (t : ViewState) (out later : Output) → IsMemberState (who me group) l
      → Heard source id l t → l.view_state ≡ Some t → Goes meaning (came (view_of t).id) (who me group) (view_of t) (in_view (view_core_of t) l.receiver out) (in_view (view_core_of t) l.receiver later)
      → Did meaning (came id) (who me group) (in_step l out) (in_step l later)
  heard-same came source id group me l t out later i h there x =
      subst (λ (v : ViewId). Did meaning (came v) (who me group) (in_step l out) (in_step l later)) h.same (goes-same meaning (came (view_of t).id) group me l t out later i h.promised there x)

  -- another member, on a packet of the coordinator that names the view
  pub other-did : (came : Address → ViewId → Option Posted) (source : Address) (id : ViewId) (group : List ℕ) (me : Address) (l : MemberState S) (m n : Follower) (s : S) (out later : Output) → IsMemberState (who me group) l
      → Heard source id l (kinds.Follower m) → l.view_state ≡ Some (kinds.Follower m) → m.view.id.creator ≡ source
      → FollowerGoes meaning (came m.view.id.creator m.view.id) (who me group) (in_view m l.receiver out) (in_view n s later)
      → Did meaning (came source id) (who me group) (in_step l out) (in_step (going_on l (kinds.Follower n) s) later)
  other-did came source id group me l m n s out later i h there from x =
      heard-did (λ v. came source v) source id group me l (kinds.Follower m) (kinds.Follower n) s out later i h there x.1
      (subst (λ (q : Address). Goes meaning (came q m.view.id) (who me group) m.view (in_view (follower_core m) l.receiver out) (in_view (follower_core n) s later)) from x.0)
