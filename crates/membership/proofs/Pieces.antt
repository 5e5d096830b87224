-- The pieces of a list.
use Rattle.std.proofs.Common.{◌≡◌, ◌≤◌, ◌+◌, ◌-◌, ◌∷◌, [], ℕ, zero, suc, Bool, true, false, ◌||◌, cond, Some, List, length, refl, take, min, sym, ap, ◌∙◌, arith, inl, inr}
use Rattle.std.specs.Prelude.{find, is_some}
use Rattle.std.specs.List.{list_any, range_with_len}
use Rattle.std.proofs.lemmas.List.{take_all}
use Rattle.std.proofs.lemmas.Bool.{cases_lt}

-- the first n, or all where there are fewer
pub front_is : (n : ℕ) (xs : List ℕ) → take (min (length xs) n) xs ≡ take n xs
front_is n xs = elim (cases_lt (length xs) n) [
  | inl fewer ↦ ap (λ k. take k xs) (omega arith) ∙ take_all (length xs) xs (omega arith) ∙ sym (take_all n xs (omega arith))
  | inr enough ↦ ap (λ k. take k xs) (omega arith)
]

-- a range that is not empty begins with its first
pub range_next : (first count : ℕ) → 1 ≤ count → range_with_len first count ≡ first ∷ range_with_len (first + 1) (count - 1)
range_next first zero some = absurd (omega (arith, some))
range_next first (suc count) some = ap (λ k. first ∷ range_with_len (first + 1) k) (omega arith)

-- one is found where any passes
pub any_found : {X : Type 0} (p : X → Bool) (xs : List X) → list_any p xs ≡ is_some (find p xs)
any_found p [] = refl
any_found p (x ∷ xs) = by (p x) (any_found p xs)
  where
    by : (b : Bool) → list_any p xs ≡ is_some (find p xs) → (b || list_any p xs) ≡ is_some (cond b (Some x) (find p xs))
    by true rest = refl
    by false rest = rest
