-- Lists of members: one more at the end, who stands in them, and who makes a view.
use Rattle.std.proofs.Common.{◌≡◌, Bool, true, false, cond, not, Some, None, List, [], ◌∷◌, ◌++◌, length, filter, refl, sym, ap, ◌∙◌, ◌⊎◌, inl, inr}
use Rattle.std.specs.Prelude.{nat_eq, nat_lt}
use Rattle.std.specs.List.{list_all}
use Rattle.std.proofs.lemmas.Bool.{and_parts, and_from, or_parts, or_left, or_right, or_cases, not-true}
use Rattle.std.proofs.lemmas.Option.{none-some}
use Rattle.std.proofs.lemmas.List.Folds.{list_any-append}
use Rattle.address.specs.declared.limits.TheConstants.{MEMBERS}
use Rattle.address.specs.Ids.{Address, ViewId, same_address}
use Rattle.address.proofs.SameIds.{same_address-true, same_address-sym}
use Rattle.view.specs.Members.{stands_in, is_distinct}
use Rattle.view.specs.View.{view_refusal, begins_with}
use Rattle.view.specs.declared.ViewError.TheVariants.{Empty, TooMany, Repeated, NotFirst}

-- ---- one more

pub stands_in-push : (p a : Address) (xs : List Address) → stands_in p xs ≡ false → same_address p a ≡ false → stands_in p (xs ++ a ∷ []) ≡ false
stands_in-push p a xs out apart = list_any-append (same_address p) xs (a ∷ []) ∙ rw (out, apart) refl

-- a new address at the end
pub distinct-push : (p : Address) (xs : List Address) → is_distinct xs ≡ true → stands_in p xs ≡ false → is_distinct (xs ++ p ∷ []) ≡ true
distinct-push p [] once new = refl
distinct-push p (x ∷ xs) once new =
    let parts = and_parts (not (stands_in x xs)) (is_distinct xs) once in
    let apart = or_parts (same_address p x) (stands_in p xs) new in
    let out = stands_in-push x p xs (not-true (stands_in x xs) parts.0) (same_address-sym x p ∙ apart.0) in
    and_from (not (stands_in x (xs ++ p ∷ []))) (is_distinct (xs ++ p ∷ [])) (ap not out) (distinct-push p xs parts.1 apart.1)

-- ---- who stands there

pub first-in : (p : Address) (list : List Address) → begins_with p list ≡ true → stands_in p list ≡ true
first-in p [] e = e
first-in p (x ∷ list) e = or_left (same_address p x) (stands_in p list) e

unrefused : {E : Type 0} (a b c d : Bool) (x y z u : E) → cond a (Some x) (cond b (Some y) (cond c (Some z) (cond (not d) (Some u) None))) ≡ None → d ≡ true
unrefused true b c d x y z u e = absurd (none-some x (sym e))
unrefused false true c d x y z u e = absurd (none-some y (sym e))
unrefused false false true d x y z u e = absurd (none-some z (sym e))
unrefused false false false true x y z u e = refl
unrefused false false false false x y z u e = absurd (none-some u (sym e))

-- who makes a view stands in its list
pub coordinator-in : (w : ViewId) (list : List Address) → view_refusal w list ≡ None → stands_in w.creator list ≡ true
coordinator-in w list e =
    first-in w.creator list
    (unrefused (nat_eq (length list) 0) (nat_lt MEMBERS (length list)) (not (is_distinct list)) (begins_with w.creator list) Empty TooMany Repeated NotFirst e)

pub all-by : (t : Address → Bool) (list : List Address) (q : Address) → list_all t list ≡ true → stands_in q list ≡ true → t q ≡ true
all-by t [] q all e = absurd (let n : false ≡ true = e in cc)
all-by t (m ∷ list) q all e = by (or_cases (same_address q m) (stands_in q list) e) (and_parts (t m) (list_all t list) all) (λ a s. all-by t list q a s)
  where
    by : (same_address q m ≡ true) ⊎ (stands_in q list ≡ true) → (t m ≡ true) × (list_all t list ≡ true) → (list_all t list ≡ true → stands_in q list ≡ true → t q ≡ true) → t q ≡ true
    by (inl same) x later = ap t (same_address-true q m same) ∙ x.0
    by (inr there) x later = later x.1 there

-- who is kept by a filter is of the list
pub filter-within : (test : Address → Bool) (q : Address) (l : List Address) → stands_in q (filter test l) ≡ true → stands_in q l ≡ true
filter-within test q [] there = there
filter-within test q (x ∷ l) there = by (test x) there (filter-within test q l)
  where
    either : (same_address q x ≡ true) ⊎ (stands_in q (filter test l) ≡ true) → (stands_in q (filter test l) ≡ true → stands_in q l ≡ true) → stands_in q (x ∷ l) ≡ true
    either (inl e) later = or_left (same_address q x) (stands_in q l) e
    either (inr e) later = or_right (same_address q x) (stands_in q l) (later e)

    by : (c : Bool) → stands_in q (cond c (x ∷ filter test l) (filter test l)) ≡ true → (stands_in q (filter test l) ≡ true → stands_in q l ≡ true) → stands_in q (x ∷ l) ≡ true
    by true y later = either (or_cases (same_address q x) (stands_in q (filter test l)) y) later
    by false y later = or_right (same_address q x) (stands_in q l) (later y)
