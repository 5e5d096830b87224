-- Whether addresses are distinct, by the set of those that were seen.
use Rattle.std.proofs.Common.{◌≡◌, ℕ, ◌+◌, ◌<◌, Bool, true, false, ◌||◌, List, [], ◌∷◌, ◌++◌, length, take, drop, not, cond, is_eq, get_or, refl, sym, ◌∙◌, ap, suc, add-one, drop-cons}
use Rattle.std.proofs.lemmas.Bool.{or_cases, or_left, or_right, and_left, and_right, not-true, not-false}
use Rattle.std.proofs.lemmas.List.{take_more, take-append-drop}
use Rattle.std.proofs.lemmas.List.Folds.{list_any-append}
use Rattle.std.proofs.Common.{⊎_elim}
use Rattle.address.specs.Ids.{Address, address_cmp, same_address}
use Rattle.view.specs.Members.{stands_in, is_distinct}
use Rattle.address.proofs.SameIds.{same_address-sym}
use Rattle.trace_props.proofs.EqualByTests.{is_eq-address}
use Rattle.view.proofs.MembersListed.{distinct-push}

-- the addresses of a set are those of a list
abbrev pub Sees : (Address → Bool) → List Address → Type 0
Sees has past = (q : Address) → has q ≡ stands_in q past

-- a list in which an address comes again is not distinct
comes_again : (p : Address) (xs ys : List Address) → stands_in p xs ≡ true → is_distinct (xs ++ p ∷ ys) ≡ false
comes_again p [] ys h = absurd cc
comes_again p (x ∷ xs) ys h =
    ⊎_elim
    (λ (here : same_address p x ≡ true).
    let again : stands_in x (xs ++ p ∷ ys) ≡ true =
    list_any-append (same_address x) xs (p ∷ ys) ∙ or_right (stands_in x xs) _ (or_left (same_address x p) (stands_in x ys) (same_address-sym x p ∙ here)) in
    and_left (not (stands_in x (xs ++ p ∷ ys))) (is_distinct (xs ++ p ∷ ys)) (ap not again))
    (λ (later : stands_in p xs ≡ true). and_right (not (stands_in x (xs ++ p ∷ ys))) (is_distinct (xs ++ p ∷ ys)) (comes_again p xs ys later))
    (or_cases (same_address p x) (stands_in p xs) h)

sees_one_more : (has has' : Address → Bool) (past : List Address) (p : Address) → Sees has past → ((q : Address) → has' q ≡ cond (is_eq (address_cmp p q)) true (has q)) → Sees has' (past ++ p ∷ [])
sees_one_more has has' past p s u q =
    u q ∙ ap (λ t. cond t true (has q)) (is_eq-address p q ∙ same_address-sym p q) ∙ ap (λ h. cond (same_address q p) true h) (s q)
    ∙ either (same_address q p) (stands_in q past) ∙ sym (list_any-append (same_address q) past (p ∷ []))
  where
    either : (a b : Bool) → cond a true b ≡ (b || (a || false))
    either true true = refl
    either true false = refl
    either false true = refl
    either false false = refl

-- what was seen, and that it is distinct
pub record SeenOnce (has : Address → Bool) (past : List Address) : Type 0 where
  pub sees : Sees has past
  pub once : is_distinct past ≡ true

pub nothing_seen : (has : Address → Bool) → ((q : Address) → has q ≡ false) → SeenOnce has []
nothing_seen has none = record { sees = none; once = refl }

-- an address is seen that was not
pub one_more_seen : (has has' : Address → Bool) (xs : List Address) (i : ℕ) (p : Address) (added : Bool) → i < length xs → p ≡ get_or xs i p → SeenOnce has (take i xs)
    → added ≡ not (has p) → added ≡ true → ((q : Address) → has' q ≡ cond (is_eq (address_cmp p q)) true (has q)) → SeenOnce has' (take (i + 1) xs)
one_more_seen has has' xs i p added inside at s a fresh u =
    let new : stands_in p (take i xs) ≡ false = sym (s.sees p) ∙ not-true (has p) (sym a ∙ fresh) in
    let more : take (i + 1) xs ≡ take i xs ++ p ∷ [] = take_more xs i p inside ∙ ap (λ x. take i xs ++ x ∷ []) (sym at) in
    rw more (record { sees = sees_one_more has has' (take i xs) p s.sees u; once = distinct-push p (take i xs) s.once new })

-- an address is seen again
pub seen_again : (has : Address → Bool) (xs : List Address) (i : ℕ) (p : Address) (added : Bool) → i < length xs → p ≡ get_or xs i p → SeenOnce has (take i xs)
    → added ≡ not (has p) → added ≡ false → is_distinct xs ≡ false
seen_again has xs i p added inside at s a stale =
    let old : stands_in p (take i xs) ≡ true = sym (s.sees p) ∙ not-false (has p) (sym a ∙ stale) in
    let whole : xs ≡ take i xs ++ p ∷ drop (i + 1) xs =
    sym (take-append-drop i xs) ∙ ap (λ l. take i xs ++ l) (rw add-one (drop-cons xs i p inside ∙ ap (λ x. x ∷ drop (suc i) xs) (sym at))) in
    ap is_distinct whole ∙ comes_again p (take i xs) (drop (i + 1) xs) old
