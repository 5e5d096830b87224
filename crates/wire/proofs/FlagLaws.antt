-- A flag before what may be there.
use Rattle.std.proofs.Common.{◌≡◌, ℕ, ◌≤◌, Bool, true, false, cond, eqb, Result, Ok, refl, arith, inl, inr}
use Rattle.std.specs.Prelude.{◌⊎◌}
use Rattle.std.proofs.lemmas.Bool.Decides.{nat_tests}
use Rattle.wire_values.specs.declared.error.WireError.{WireError}

pub chosen : {A : Type 0} (b : Bool) (r s : Result A WireError) (y : A) → cond b r s ≡ Ok y → ((b ≡ true) × (r ≡ Ok y)) ⊎ ((b ≡ false) × (s ≡ Ok y))
chosen true r s y e = inl (refl, e)
chosen false r s y e = inr (refl, e)

-- a flag that is not 0 is 1
pub flag_one : (n : ℕ) → n ≤ 1 → eqb n 0 ≡ false → n ≡ 1
flag_one n few e = grind (arith, nat_tests)

-- and one of three that is neither 0 nor 1 is 2
pub flag_two : (n : ℕ) → n ≤ 2 → eqb n 0 ≡ false → eqb n 1 ≡ false → n ≡ 2
flag_two n few e f = grind (arith, nat_tests)
