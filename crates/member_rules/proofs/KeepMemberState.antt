-- A member stays what it always is, when it notes, asks, and makes a first view.
use Rattle.std.proofs.Common.{◌≡◌, true, false, ◌||◌, Option, Some, None, List, refl, ap, ◌∙◌, is_some, []}
use Rattle.std.specs.Option.{option_map_or}
use Rattle.address.specs.Ids.{Address}
use Rattle.view.specs.Members.{View}
use Rattle.next_view.specs.ViewNotes.{outdating}
use Rattle.next_view.specs.Noting.{noting, noting_view}
use Rattle.law_acts.specs.Acts.{lone_view}
use Rattle.traffic.specs.declared.view_state.ViewState.{ViewState}
use Rattle.traffic.specs.ViewStates.{fresh_in}
use Rattle.membership.specs.declared.member_state.MemberState.{MemberState}
use Rattle.membership.specs.MemberStates.{IsMemberState, view_in, is_connected}
use Rattle.membership.proofs.KeepNotes as notes
use Rattle.membership.proofs.KeepMemberState as lives
use Rattle.member_rules.specs.Views.{outdated, joined, merged, listed_in}
use Rattle.step_output.specs.Steps.{Who}

outside-of : (view_state : Option ViewState) (contact : Option Address) → (is_some view_state || is_some contact) ≡ false → view_state ≡ None
outside-of None contact e = refl
outside-of (Some t) contact e = absurd (let n : true ≡ false = e in cc)

module _ {S : Type 0} (who : Who) where
  -- ---- it notes, where it has a view

  outdated-in : (view : Option View) (q : Address) (l new : MemberState S) → IsMemberState who l → new ≡ record l { notes = option_map_or (λ v. outdating who.address v.members q l.notes) view l.notes } → IsMemberState who new
  outdated-in None q l new x is = notes.same-suspects-member_state who l new l.notes x is refl
  outdated-in (Some v) q l new x is = notes.outdated-member_state who l new v.members q x is

  joined-in : (view : Option View) (listed : List Address) (q : Address) (l new : MemberState S) → IsMemberState who l
      → new ≡ record l { notes = option_map_or (λ v. noting who.address v.members listed q l.notes) view l.notes } → IsMemberState who new
  joined-in None listed q l new x is = notes.same-suspects-member_state who l new l.notes x is refl
  joined-in (Some v) listed q l new x is = notes.joiner-member_state who l new v.members listed q x is

  merged-in : (view : Option View) (u : View) (l new : MemberState S) → IsMemberState who l → new ≡ record l { notes = option_map_or (λ v. noting_view who.address v.members u l.notes) view l.notes } → IsMemberState who new
  merged-in None u l new x is = notes.same-suspects-member_state who l new l.notes x is refl
  merged-in (Some v) u l new x is = notes.merging-member_state who l new v.members u x is

  pub outdated-member_state : (q : Address) (l new : MemberState S) → IsMemberState who l → new ≡ outdated who.address q l → IsMemberState who new
  outdated-member_state q l new x is = outdated-in (view_in l.view_state) q l new x is

  pub joined-member_state : (q : Address) (l new : MemberState S) → IsMemberState who l → new ≡ joined who.address q l → IsMemberState who new
  joined-member_state q l new x is = joined-in (view_in l.view_state) (listed_in l.flush) q l new x is

  pub merged-member_state : (u : View) (l new : MemberState S) → IsMemberState who l → new ≡ merged who.address u l → IsMemberState who new
  merged-member_state u l new x is = merged-in (view_in l.view_state) u l new x is

  -- ---- it makes a first view of itself alone

  pub outside : (l : MemberState S) → is_connected l ≡ false → l.view_state ≡ None
  outside l e = outside-of l.view_state l.contact e

  pub created-member_state : (l new : MemberState S) → IsMemberState who l → is_connected l ≡ false
      → new ≡ record l { view_state = Some (fresh_in who.address (lone_view who.address)); promise = record { member = l.promise.member; proposal = Some (lone_view who.address); is_installed = true }; sent_state = None; chunks = [] }
      → IsMemberState who new
  created-member_state l new x idle is =
      lives.created-member_state who l new x idle
      (is ∙ ap (λ (p : Address). record l { view_state = Some (fresh_in who.address (lone_view who.address)); promise = record { member = p; proposal = Some (lone_view who.address); is_installed = true }; sent_state = None; chunks = [] }) x.own)
