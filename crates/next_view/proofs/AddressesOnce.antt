-- A list of addresses, each once: what is left of it, and one more at its end.
use Rattle.std.proofs.Common.{◌≡◌, ℕ, zero, suc, Bool, true, false, cond, not, ◌||◌, List, [], ◌∷◌, ◌++◌, take, refl, ap}
use Rattle.std.specs.Prelude.{filter, fold, if◌then◌else◌}
use Rattle.std.proofs.lemmas.Bool.{and_parts, and_from, or_parts, not-true}
use Rattle.address.specs.Ids.{Address, same_address}
use Rattle.view.specs.Members.{stands_in, is_distinct}
use Rattle.next_view.specs.Candidates.{with_one, unsuspected}
use Rattle.view.proofs.MembersListed.{distinct-push}

-- ---- one more

distinct-with-by : (b : Bool) (s list : List Address) (p : Address) → (stands_in p s || stands_in p list) ≡ b → is_distinct list ≡ true
    → is_distinct (if b then list else list ++ p ∷ []) ≡ true
distinct-with-by true s list p q once = once
distinct-with-by false s list p q once = distinct-push p list once (or_parts (stands_in p s) (stands_in p list) q).1

distinct-fold : (s list xs : List Address) → is_distinct list ≡ true → is_distinct (fold (with_one s) list xs) ≡ true
distinct-fold s list [] once = once
distinct-fold s list (x ∷ xs) once = distinct-fold s (with_one s list x) xs (distinct-with-by (stands_in x s || stands_in x list) s list x refl once)

-- who is not suspected stands once
pub distinct-unsuspected : (s xs : List Address) → is_distinct (unsuspected s xs) ≡ true
distinct-unsuspected s xs = distinct-fold s [] xs refl

-- ---- what is left

absent-filter-by : (b : Bool) (t : Address → Bool) (p x : Address) (xs : List Address) → same_address p x ≡ false → stands_in p (filter t xs) ≡ false
    → stands_in p (cond b (x ∷ filter t xs) (filter t xs)) ≡ false
absent-filter-by true t p x xs apart out = rw (apart) out
absent-filter-by false t p x xs apart out = out

absent-filter : (t : Address → Bool) (p : Address) (xs : List Address) → stands_in p xs ≡ false → stands_in p (filter t xs) ≡ false
absent-filter t p [] out = refl
absent-filter t p (x ∷ xs) out =
    let apart = or_parts (same_address p x) (stands_in p xs) out in
    absent-filter-by (t x) t p x xs apart.0 (absent-filter t p xs apart.1)

distinct-filter-by : (b : Bool) (t : Address → Bool) (x : Address) (xs : List Address) → stands_in x xs ≡ false → is_distinct (filter t xs) ≡ true
    → is_distinct (cond b (x ∷ filter t xs) (filter t xs)) ≡ true
distinct-filter-by true t x xs out once = and_from (not (stands_in x (filter t xs))) (is_distinct (filter t xs)) (ap not (absent-filter t x xs out)) once
distinct-filter-by false t x xs out once = once

pub distinct-filter : (t : Address → Bool) (xs : List Address) → is_distinct xs ≡ true → is_distinct (filter t xs) ≡ true
distinct-filter t [] once = refl
distinct-filter t (x ∷ xs) once =
    let parts = and_parts (not (stands_in x xs)) (is_distinct xs) once in
    distinct-filter-by (t x) t x xs (not-true (stands_in x xs) parts.0) (distinct-filter t xs parts.1)

absent-take : (n : ℕ) (p : Address) (xs : List Address) → stands_in p xs ≡ false → stands_in p (take n xs) ≡ false
absent-take zero p xs out = refl
absent-take (suc n) p [] out = refl
absent-take (suc n) p (x ∷ xs) out =
    let apart = or_parts (same_address p x) (stands_in p xs) out in
    rw (apart.0) (absent-take n p xs apart.1)

pub distinct-take : (n : ℕ) (xs : List Address) → is_distinct xs ≡ true → is_distinct (take n xs) ≡ true
distinct-take zero xs once = refl
distinct-take (suc n) [] once = refl
distinct-take (suc n) (x ∷ xs) once =
    let parts = and_parts (not (stands_in x xs)) (is_distinct xs) once in
    and_from (not (stands_in x (take n xs))) (is_distinct (take n xs)) (ap not (absent-take n x xs (not-true (stands_in x xs) parts.0))) (distinct-take n xs parts.1)
