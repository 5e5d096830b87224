-- Notes by which a member goes on to lead its view, and does not suspect itself.
use Rattle.std.proofs.Common.{◌≡◌, ℕ, Bool, true, false, not, ◌&&◌, ◌||◌, Option, Some, None, List, [], ◌∷◌, ◌++◌, take, length, max, nat_eq, refl, ap, ◌∙◌}
use Rattle.std.specs.Prelude.{if◌then◌else◌}
use Rattle.std.specs.List.{list_all}
use Rattle.std.specs.Option.{option_map_or}
use Rattle.std.proofs.lemmas.Bool.{and_parts, and_from, or_left}
use Rattle.std.proofs.lemmas.List.Folds.{list_any-append}
use Rattle.address.specs.Ids.{Address, same_address}
use Rattle.view.specs.Members.{View, stands_in, rank_of}
use Rattle.suspicion.specs.Suspicion.{suspected_too, leads}
use Rattle.next_view.specs.ViewNotes.{NotesModel, having_heard, suspecting, is_later, outdates, outdating}
use Rattle.next_view.specs.Noting.{noting, noting_view, with_joiner, is_known_here, with_merging, new_of}
use Rattle.next_view.specs.Candidates.{has_room}
use Rattle.membership.specs.declared.member_state.MemberState.{MemberState}
use Rattle.membership.specs.MemberStates.{IsMemberState}
use Rattle.membership.proofs.KeepMemberState.{noted-member_state}
use Rattle.address.proofs.SameIds.{same_address-sym}
use Rattle.step_output.specs.Steps.{Who}

-- ---- more suspects

-- whom some suspects have, others have too
abbrev pub HasThese : List Address → List Address → Type 0
HasThese more suspects = (m : Address) → stands_in m suspects ≡ true → stands_in m more ≡ true

all-more : (suspects more list : List Address) → HasThese more suspects → list_all (λ m. stands_in m suspects) list ≡ true → list_all (λ m. stands_in m more) list ≡ true
all-more suspects more [] has e = refl
all-more suspects more (m ∷ list) has e =
    let parts = and_parts (stands_in m suspects) (list_all (λ x. stands_in x suspects) list) e in
    and_from (stands_in m more) (list_all (λ x. stands_in x more) list) (has m parts.0) (all-more suspects more list has parts.1)

leads-by : (rank : Option ℕ) (suspects more members : List Address) → HasThese more suspects → option_map_or (λ k. list_all (λ m. stands_in m suspects) (take k members)) rank false ≡ true
    → option_map_or (λ k. list_all (λ m. stands_in m more) (take k members)) rank false ≡ true
leads-by None suspects more members has e = e
leads-by (Some k) suspects more members has e = all-more suspects more (take k members) has e

-- whoever leads goes on to lead with more suspects
pub leads-more : (suspects more members : List Address) (p : Address) → HasThese more suspects → leads suspects members p ≡ true → leads more members p ≡ true
leads-more suspects more members p has e = leads-by (rank_of p members) suspects more members has e

too-by : (b : Bool) (p m : Address) (suspects : List Address) → stands_in m suspects ≡ true → stands_in m (if b then suspects else suspects ++ p ∷ []) ≡ true
too-by true p m suspects e = e
too-by false p m suspects e = list_any-append (same_address m) suspects (p ∷ []) ∙ or_left (stands_in m suspects) (same_address m p || false) e

pub has-too : (p : Address) (suspects : List Address) → HasThese (suspected_too p suspects) suspects
has-too p suspects m e = too-by (stands_in p suspects) p m suspects e

free-by : (b : Bool) (p me : Address) (suspects : List Address) → same_address p me ≡ false → stands_in me suspects ≡ false → stands_in me (if b then suspects else suspects ++ p ∷ []) ≡ false
free-by true p me suspects other free = free
free-by false p me suspects other free =
    list_any-append (same_address me) suspects (p ∷ []) ∙ ap (λ b. b || (same_address me p || false)) free ∙ ap (λ b. b || false) (same_address-sym me p ∙ other)

pub free-too : (p me : Address) (suspects : List Address) → same_address p me ≡ false → stands_in me suspects ≡ false → stands_in me (suspected_too p suspects) ≡ false
free-too p me suspects other free = free-by (stands_in p suspects) p me suspects other free

-- ---- each outdated member is suspected

record IsMore (me : Address) (old new : NotesModel) : Type 0 where
  free : stands_in me old.suspects ≡ false → stands_in me new.suspects ≡ false
  has : HasThese new.suspects old.suspects

outdates-by : (a b : Bool) (me q : Address) (notes : NotesModel) → same_address q me ≡ b → IsMore me notes (if a && not b then suspecting q notes else notes)
outdates-by true true me q notes e = record { free = λ f. f; has = λ m there. there }
outdates-by true false me q notes e = record { free = λ f. free-too q me notes.suspects e f; has = has-too q notes.suspects }
outdates-by false b me q notes e = record { free = λ f. f; has = λ m there. there }

outdating-more : (me p : Address) (members : List Address) (notes : NotesModel) → IsMore me notes (outdating me members p notes)
outdating-more me p [] notes = record { free = λ f. f; has = λ m there. there }
outdating-more me p (q ∷ members) notes =
    let first = outdates-by (is_later p q) (same_address q me) me q notes refl in
    let rest = outdating-more me p members (outdates me p notes q) in
    record { free = λ f. rest.free (first.free f); has = λ m there. rest.has m (first.has m there) }

-- ---- who asks to be let in, or merges, is no suspect

noted-by : (a b : Bool) (p : Address) (notes : NotesModel) → (if a then notes else if b then with_joiner p notes else notes).suspects ≡ notes.suspects
noted-by true b p notes = refl
noted-by false true p notes = refl
noted-by false false p notes = refl

pub noting-suspects : (me : Address) (members listed : List Address) (p : Address) (notes : NotesModel) → (noting me members listed p notes).suspects ≡ notes.suspects
noting-suspects me members listed p notes = noted-by (is_known_here p members listed notes) (has_room me members (with_joiner p notes)) p notes

viewed-by : (a b : Bool) (list : List Address) (n : ℕ) (notes : NotesModel)
    → (if a then notes else if b then record (with_merging list notes) { heard = n } else notes).suspects ≡ notes.suspects
viewed-by true b list n notes = refl
viewed-by false true list n notes = refl
viewed-by false false list n notes = refl

pub noting_view-suspects : (me : Address) (members : List Address) (u : View) (notes : NotesModel) → (noting_view me members u notes).suspects ≡ notes.suspects
noting_view-suspects me members u notes =
    let new = new_of members u.members notes in
    viewed-by (nat_eq (length new) 0) (has_room me members (with_merging new notes)) new (max notes.heard u.id.counter) notes

module _ {S : Type 0} (who : Who) where
  -- the same suspects
  pub same-suspects-member_state : (l new : MemberState S) (b : NotesModel) → IsMemberState who l → new ≡ record l { notes = b } → b.suspects ≡ l.notes.suspects → IsMemberState who new
  same-suspects-member_state l new b kept is same =
      noted-member_state who l new b kept is (ap (stands_in who.address) same ∙ kept.unsuspected) (λ v e. ap (λ s. leads s v.members who.address) same ∙ e)

  -- an address more is suspected
  pub suspected-member_state : (l new : MemberState S) (p : Address) → IsMemberState who l → same_address p who.address ≡ false → new ≡ record l { notes = suspecting p l.notes } → IsMemberState who new
  suspected-member_state l new p kept other is =
      noted-member_state who l new (suspecting p l.notes) kept is (free-too p who.address l.notes.suspects other kept.unsuspected)
      (λ v e. leads-more l.notes.suspects (suspected_too p l.notes.suspects) v.members who.address (has-too p l.notes.suspects) e)

  -- those of whose nodes p is a later incarnation are suspected
  pub outdated-member_state : (l new : MemberState S) (members : List Address) (p : Address) → IsMemberState who l → new ≡ record l { notes = outdating who.address members p l.notes } → IsMemberState who new
  outdated-member_state l new members p kept is =
      let x = outdating-more who.address p members l.notes in
      noted-member_state who l new (outdating who.address members p l.notes) kept is (x.free kept.unsuspected) (λ v e. leads-more l.notes.suspects (outdating who.address members p l.notes).suspects v.members who.address x.has e)

  -- a counter is heard of
  pub heard-member_state : (l new : MemberState S) (n : ℕ) → IsMemberState who l → new ≡ record l { notes = having_heard n l.notes } → IsMemberState who new
  heard-member_state l new n kept is = same-suspects-member_state l new (having_heard n l.notes) kept is refl

  -- one who asks to be let in is noted
  pub joiner-member_state : (l new : MemberState S) (members listed : List Address) (p : Address) → IsMemberState who l → new ≡ record l { notes = noting who.address members listed p l.notes } → IsMemberState who new
  joiner-member_state l new members listed p kept is = same-suspects-member_state l new (noting who.address members listed p l.notes) kept is (noting-suspects who.address members listed p l.notes)

  -- a view that merges is noted
  pub merging-member_state : (l new : MemberState S) (members : List Address) (u : View) → IsMemberState who l → new ≡ record l { notes = noting_view who.address members u l.notes } → IsMemberState who new
  merging-member_state l new members u kept is = same-suspects-member_state l new (noting_view who.address members u l.notes) kept is (noting_view-suspects who.address members u l.notes)
