-- The first packet that is for an address, one number further.
use Rattle.std.proofs.Common.{◌≡◌, ℕ, zero, suc, ◌+◌, ◌-◌, ◌<◌, Bool, true, false, cond, Option, Some, List, [], ◌∷◌, drop, length, nat_eq, refl, sym, ap, ◌∙◌, arith}
use Rattle.std.specs.List.{slice_get, position_from}
use Rattle.std.specs.Option.{option_map_or}
use Rattle.std.proofs.lemmas.Bool.{cond-true, cond-false}
use Rattle.std.proofs.lemmas.Bool.Decides.{nat_tests}
use Rattle.std.proofs.lemmas.Option.{none-some}
use Rattle.address.specs.Ids.{Address}
use Rattle.world_model.specs.Packets.{packet_numbered}
use Rattle.world.specs.Pools.{is_destined, first_for}

drop-at : {X : Type 0} (n : ℕ) (xs : List X) (x : X) → slice_get xs n ≡ Some x → drop n xs ≡ x ∷ drop (suc n) xs
drop-at n [] x at = absurd (none-some x at)
drop-at zero (y ∷ xs) x at = ap (λ (o : Option _). option_map_or (λ z. z ∷ xs) o (y ∷ xs)) at
drop-at (suc n) (y ∷ xs) x at = drop-at n xs x at

there-at : {X : Type 0} (n : ℕ) (xs : List X) → n < length xs → (x : X) × (slice_get xs n ≡ Some x)
there-at n [] low = absurd (omega (arith, low))
there-at zero (y ∷ xs) low = (y, refl)
there-at (suc n) (y ∷ xs) low = there-at n xs (omega (arith, low))

pub numbered-at : (k : ℕ) (pool : List (List ℕ)) → packet_numbered (k + 1) pool ≡ slice_get pool k
numbered-at k pool = let e : nat_eq (k + 1) 0 ≡ false = grind (arith, nat_tests) in let f : (k + 1) - 1 ≡ k = omega arith in rw (e, f) refl

-- whether the packet of a number is for it
abbrev pub is_for : Address → ℕ → List (List ℕ) → Bool
is_for a k pool = option_map_or (is_destined a) (packet_numbered k pool) false

unfolded : (a : Address) (k : ℕ) (pool : List (List ℕ)) → k < length pool → first_for a k pool ≡ cond (is_for a (k + 1) pool) (Some (k + 1)) (first_for a (k + 1) pool)
unfolded a k pool low =
    let x = there-at k pool low in
    let one : drop k pool ≡ x.0 ∷ drop (suc k) pool = drop-at k pool x.0 x.1 in
    let test : is_for a (k + 1) pool ≡ is_destined a x.0 = ap (λ (o : Option (List ℕ)). option_map_or (is_destined a) o false) (numbered-at k pool ∙ x.1) in
    let next : suc k ≡ k + 1 = omega arith in
    ap (position_from (is_destined a) (k + 1)) one
    ∙ ap (λ (j : ℕ). cond (is_destined a x.0) (Some (k + 1)) (position_from (is_destined a) (k + 1 + 1) (drop j pool))) next
    ∙ ap (λ (b : Bool). cond b (Some (k + 1)) (first_for a (k + 1) pool)) (sym test)

pub first-later : (a : Address) (k : ℕ) (pool : List (List ℕ)) → k < length pool → is_for a (k + 1) pool ≡ false → first_for a k pool ≡ first_for a (k + 1) pool
first-later a k pool low e = unfolded a k pool low ∙ cond-false (is_for a (k + 1) pool) (Some (k + 1)) (first_for a (k + 1) pool) e

pub first-here : (a : Address) (k : ℕ) (pool : List (List ℕ)) → k < length pool → is_for a (k + 1) pool ≡ true → first_for a k pool ≡ Some (k + 1)
first-here a k pool low e = unfolded a k pool low ∙ cond-true (is_for a (k + 1) pool) (Some (k + 1)) (first_for a (k + 1) pool) e
