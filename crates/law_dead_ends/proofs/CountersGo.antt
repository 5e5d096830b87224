-- How far the counters and the notes of a member go by a suspicion and a proposal.
use Rattle.std.proofs.Common.{◌≡◌, ℕ, ◌+◌, ◌≤◌, ◌<◌, Bool, true, false, cond, not, ◌⊎◌, inl, inr, Some, None, List, [], ◌∷◌, length, max, refl, sym, ap, ◌∙◌, arith}
use Rattle.std.specs.Prelude.{filter, nat_lt, if◌then◌else◌}
use Rattle.std.specs.Option.{option_map}
use Rattle.std.proofs.lemmas.Bool.{or_cases, or_left}
use Rattle.std.proofs.lemmas.Bool.Decides.{nat_tests}
use Rattle.std.proofs.lemmas.Option.{none-some, same_Some}
use Rattle.address.specs.Ids.{Address, same_address}
use Rattle.address.proofs.SameIds.{same_address-sym}
use Rattle.address.specs.declared.limits.TheConstants.{GREATEST_NUMBER}
use Rattle.view.specs.Members.{View, stands_in}
use Rattle.next_view.specs.ViewNotes.{NotesModel, others_than, suspecting, settled}
use Rattle.next_view.specs.Candidates.{next_counter}

-- what is kept of a list is no longer
pub filter-short : (t : Address → Bool) (xs : List Address) → length (filter t xs) ≤ length xs
filter-short t [] = omega arith
filter-short t (x ∷ xs) = by (t x) (filter-short t xs)
  where
    by : (b : Bool) → length (filter t xs) ≤ length xs → length (cond b (x ∷ filter t xs) (filter t xs)) ≤ length (x ∷ xs)
    by true l = omega (arith, l)
    by false l = omega (arith, l)

-- and shorter where one of them is not kept
pub filter-shorter : (q : Address) (xs : List Address) → stands_in q xs ≡ true → length (others_than (q ∷ []) xs) < length xs
filter-shorter q [] e = absurd (let n : false ≡ true = e in cc)
filter-shorter q (x ∷ xs) e = by (or_cases (same_address q x) (stands_in q xs) e) (stands_in x (q ∷ [])) refl (filter-shorter q xs)
  where
    t : Address → Bool
    t p = not (stands_in p (q ∷ []))

    by : (same_address q x ≡ true) ⊎ (stands_in q xs ≡ true) → (b : Bool) → stands_in x (q ∷ []) ≡ b → (stands_in q xs ≡ true → length (filter t xs) < length xs)
        → length (cond (not b) (x ∷ filter t xs) (filter t xs)) < length (x ∷ xs)
    by (inl same) true is later = let l = filter-short t xs in omega (arith, l)
    by (inl same) false is later = absurd (let n : true ≡ false = sym (or_left (same_address x q) false (same_address-sym x q ∙ same)) ∙ is in cc)
    by (inr there) true is later = let l = later there in omega (arith, l)
    by (inr there) false is later = let l = later there in omega (arith, l)

-- how many are noted
pub noted : NotesModel → ℕ
noted b = length b.joiners + length b.merging

pub noted-is : (b : NotesModel) → noted b ≡ length b.joiners + length b.merging
unfolding noted
noted-is b = refl

pub suspecting-noted : (q : Address) (b : NotesModel) → noted (suspecting q b) ≤ noted b
unfolding noted
suspecting-noted q b =
    let j = filter-short (λ p. not (stands_in p (q ∷ []))) b.joiners in
    let m = filter-short (λ p. not (stands_in p (q ∷ []))) b.merging in
    omega (arith, j, m)

pub settled-noted : (members : List Address) (b : NotesModel) → noted (settled members b) ≤ noted b
unfolding noted
settled-noted members b =
    let j = filter-short (λ p. not (stands_in p members)) b.joiners in
    let m = filter-short (λ p. not (stands_in p members)) b.merging in
    omega (arith, j, m)

-- who is noted and suspected is noted no more
pub suspecting-fewer : (q : Address) (b : NotesModel) → (stands_in q b.joiners ≡ true) ⊎ (stands_in q b.merging ≡ true) → noted (suspecting q b) < noted b
unfolding noted
suspecting-fewer q b (inl there) =
    let j = filter-shorter q b.joiners there in
    let m = filter-short (λ p. not (stands_in p (q ∷ []))) b.merging in
    omega (arith, j, m)
suspecting-fewer q b (inr there) =
    let j = filter-short (λ p. not (stands_in p (q ∷ []))) b.joiners in
    let m = filter-shorter q b.merging there in
    omega (arith, j, m)

-- where nobody is noted, nobody is there
pub noted-none : (q : Address) (b : NotesModel) → (stands_in q b.joiners ≡ true) ⊎ (stands_in q b.merging ≡ true) → 0 < noted b
noted-none q b there = let l = suspecting-fewer q b there in omega (arith, l)

-- the counter of a proposal is the next one
pub next-is : (promised : ℕ) (b : NotesModel) (p : Address) (list : List Address) (w : View)
    → option_map (λ n. record { id = record { counter = n; creator = p }; members = list }) (next_counter promised b) ≡ Some w → w.id.counter ≡ max promised b.heard + 1
next-is promised b p list w e = by (nat_lt (max promised b.heard) GREATEST_NUMBER) e
  where
    by : (t : Bool) → option_map (λ n. record { id = record { counter = n; creator = p }; members = list }) (if t then Some (max promised b.heard + 1) else None) ≡ Some w
        → w.id.counter ≡ max promised b.heard + 1
    by true e = ap (λ (z : View). z.id.counter) (sym (same_Some (record { id = record { counter = max promised b.heard + 1; creator = p }; members = list }) w e))
    by false e = absurd (none-some w e)

-- there is one where room is left
pub next-there : (promised : ℕ) (b : NotesModel) (p : Address) (list : List Address) → max promised b.heard < GREATEST_NUMBER
    → (w : View) × (option_map (λ n. record { id = record { counter = n; creator = p }; members = list }) (next_counter promised b) ≡ Some w)
next-there promised b p list room =
    let t : nat_lt (max promised b.heard) GREATEST_NUMBER ≡ true = grind (arith, nat_tests, room) in
    (record { id = record { counter = max promised b.heard + 1; creator = p }; members = list }, rw (t) refl)
