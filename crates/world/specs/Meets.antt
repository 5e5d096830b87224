-- Two members, each alone in its view, come into one view: whom this is about, and what it says.
use Rattle.std.specs.Prelude.{◌≡◌, ℕ, ◌+◌, ◌<◌, max, true, [], ◌∷◌, length, Some}
use Rattle.std.specs.Option.{IsSomeAnd, option_map, option_map_or}
use Rattle.address.specs.Ids.{Address}
use Rattle.view.specs.Members.{View}
use Rattle.address.specs.declared.limits.TheConstants.{GREATEST_NUMBER}
use Rattle.state_transfer.specs.Meanings.{Meaning}
use Rattle.next_view.specs.ViewNotes.{NotesModel}
use Rattle.membership.specs.declared.member_state.MemberState.{MemberState}
use Rattle.membership.specs.MemberStates.{view_in}
use Rattle.member.specs.Members.{MemberModel}
use Rattle.member_rules.specs.Views.{is_less}
use Rattle.world_model.specs.declared.WorldEvent.TheVariants.{MergeHint, Deliver}
use Rattle.world.specs.declared.node_state.NodeState.TheVariants.{Running}
use Rattle.world.specs.Worlds.{WorldModel, IsReached}
use Rattle.world.specs.Plays.{Plays}
use Rattle.world.specs.Settles.{settling_at, Settles, IsSettled}

-- the member of an address runs, alone in its view, and is not blocked
pub record StandsAlone {S : Type 0} (w : WorldModel S) (p : Address) (l : MemberState S) : Type 0 where
  pub member : MemberModel S
  pub node_state : w.node_states p.node ≡ Running member
  pub address : member.address ≡ p
  pub member_state : member.member_state ≡ Some l
  pub alone : option_map (λ v. v.members) (view_in l.view_state) ≡ Some (p ∷ [])
  pub not_blocked : l.promise.is_installed ≡ true

-- it has noted nobody
pub record NotesNobody (b : NotesModel) : Type 0 where
  pub suspects : b.suspects ≡ []
  pub joiners : b.joiners ≡ []
  pub merging : b.merging ≡ []

-- the counter of the view that it is in
abbrev pub counter_in : {S : Type 0} → MemberState S → ℕ
counter_in l = option_map_or (λ v. v.id.counter) (view_in l.view_state) 0

-- a counter is left past its own view, what it heard of, and the other's view
abbrev pub HasCounter : {S : Type 0} → MemberState S → MemberState S → Type 0
HasCounter l k = max (counter_in l) (max l.notes.heard (counter_in k)) < GREATEST_NUMBER

-- two members stand alone, the lesser one has noted nobody, and a counter is left; then come a hint of it to the greater one, and a delivery of the MERGE that is sent by that
pub record HintsAndDelivers {S : Type 0} (meaning : Meaning S) (p q : Address) (old noted : WorldModel S) : Type 0 where
  pub lesser : MemberState S
  pub greater : MemberState S
  pub hinted : WorldModel S
  pub first : StandsAlone old p lesser
  pub second : StandsAlone old q greater
  pub less : is_less p q ≡ true
  pub nobody : NotesNobody lesser.notes
  pub room : HasCounter lesser greater
  pub hints : Plays meaning old (MergeHint q.node p) hinted
  pub delivers : Plays meaning hinted (Deliver (length old.history.pool + 1)) noted

-- LONE VIEWS MEET: then the lesser one has begun a change of view to the two of them, and it can complete
abbrev pub LoneViewsMeet : {S : Type 0} → Meaning S → Type 0
LoneViewsMeet {S} meaning = (old noted : WorldModel S) (p q : Address) → IsReached meaning old → HintsAndDelivers meaning p q old noted
    → IsSomeAnd (settling_at noted.node_states p.node) (λ v. v.members ≡ p ∷ q ∷ [])

-- so when it settles, both run, in one view of the two
abbrev pub LoneViewsJoin : {S : Type 0} → Meaning S → Type 0
LoneViewsJoin {S} meaning = (old noted new : WorldModel S) (p q : Address) → IsReached meaning old → HintsAndDelivers meaning p q old noted → Settles meaning p.node noted new
    → (v : View) × (v.members ≡ p ∷ q ∷ []) × IsSettled v new.history.trace
