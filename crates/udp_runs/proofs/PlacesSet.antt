-- Places of a list, of which one is set.
use Rattle.std.proofs.Common.{◌≡◌, ℕ, zero, suc, ◌+◌, ◌<◌, ◌⊎◌, inl, inr, Option, None, Some, IsSomeAnd, List, [], ◌∷◌, ◌++◌, length, take, get_or, slice_get, slice_set, refl, sym, ap, ◌∙◌, subst, arith}
use Rattle.std.proofs.lemmas.Option.{none-some, same_Some}

module _ {X : Type 0} where
  pub set-same : (xs : List X) (k : ℕ) (x y : X) → slice_get xs k ≡ Some x → slice_get (slice_set xs k y) k ≡ Some y
  set-same [] k x y at = absurd (none-some x at)
  set-same (z ∷ xs) zero x y at = refl
  set-same (z ∷ xs) (suc k) x y at = set-same xs k x y at

  pub set-other : (xs : List X) (k j : ℕ) (y : X) → (j ≡ k → ⊥) → slice_get (slice_set xs k y) j ≡ slice_get xs j
  set-other [] k j y other = refl
  set-other (z ∷ xs) zero zero y other = absurd (other refl)
  set-other (z ∷ xs) zero (suc j) y other = refl
  set-other (z ∷ xs) (suc k) zero y other = refl
  set-other (z ∷ xs) (suc k) (suc j) y other = set-other xs k j y (λ e. other (ap suc e))

  pub set-self : (xs : List X) (k : ℕ) (x : X) → slice_get xs k ≡ Some x → slice_set xs k x ≡ xs
  set-self [] k x at = refl
  set-self (z ∷ xs) zero x at = ap (λ (w : X). w ∷ xs) (sym (same_Some z x at))
  set-self (z ∷ xs) (suc k) x at = ap (λ (l : List X). z ∷ l) (set-self xs k x at)

-- what stands at a place within
pub at-place : {X : Type 0} (xs : List X) (k : ℕ) (x : X) → k < length xs → x ≡ get_or xs k x → slice_get xs k ≡ Some x
at-place [] k x within is = absurd (omega arith)
at-place (y ∷ xs) zero x within is = ap Some (sym is)
at-place (y ∷ xs) (suc k) x within is = at-place xs k x (omega arith) is

pub length-set : {X : Type 0} (xs : List X) (k : ℕ) (x : X) → length (slice_set xs k x) ≡ length xs
length-set [] k x = refl
length-set (y ∷ xs) zero x = refl
length-set (y ∷ xs) (suc k) x = ap suc (length-set xs k x)

-- one more of the first
more-first : {X : Type 0} (xs : List X) (k : ℕ) (x : X) → slice_get xs k ≡ Some x → take (suc k) xs ≡ take k xs ++ x ∷ []
more-first [] k x at = absurd (none-some x at)
more-first {X} (y ∷ xs) zero x at = ap (λ (z : X). z ∷ []) (same_Some y x at)
more-first {X} (y ∷ xs) (suc k) x at = ap (λ (l : List X). y ∷ l) (more-first xs k x at)

pub take-more : {X : Type 0} (xs : List X) (k : ℕ) (x : X) → slice_get xs k ≡ Some x → take (k + 1) xs ≡ take k xs ++ x ∷ []
take-more xs k x at = let n : k + 1 ≡ suc k = omega arith in ap (λ (m : ℕ). take m xs) n ∙ more-first xs k x at

pub some-of : {X : Type 0} (P : X → Type 0) (o : Option X) (x : X) → o ≡ Some x → P x → IsSomeAnd o P
some-of P None x at so = absurd (none-some x at)
some-of P (Some y) x at so = subst P (sym (same_Some y x at)) so

pub some-at : {X : Type 0} (P : X → Type 0) (o : Option X) (x : X) → o ≡ Some x → IsSomeAnd o P → P x
some-at P None x at so = absurd so
some-at P (Some y) x at so = subst P (same_Some y x at) so

-- two places are one, or one of them comes first
pub places : (a b : ℕ) → (a ≡ b) ⊎ ((a < b) ⊎ (b < a))
places zero zero = inl refl
places zero (suc b) = inr (inl (omega arith))
places (suc a) zero = inr (inr (omega arith))
places (suc a) (suc b) = more (places a b)
  where
    more : (a ≡ b) ⊎ ((a < b) ⊎ (b < a)) → (suc a ≡ suc b) ⊎ ((suc a < suc b) ⊎ (suc b < suc a))
    more (inl e) = inl (ap suc e)
    more (inr (inl x)) = inr (inl (omega arith))
    more (inr (inr x)) = inr (inr (omega arith))
