-- The table is held against the definition at each of the 256 bytes, by computing.
use Rattle.std.proofs.Common.{◌≡◌, ℕ, zero, suc, ◌<◌, Bool, true, false, ◌&&◌, nat_eq, nat_lt, get_or, List, Option, None, Some, refl, arith, inl, inr}
use Rattle.std.specs.Prelude.{MatchOption}
use Rattle.std.proofs.lemmas.Bool.{cases_eq}
use Rattle.std.proofs.lemmas.Bool.Decides.{nat_tests}
use Rattle.vsync_text.specs.declared.hexadecimal.TheConstants.{DIGITS}
use Rattle.vsync_text.specs.Forms.{hex_value}
use Rattle.vsync_text.proofs.hexadecimal.digit_value.Goals as goal

-- a test holds below n
holds_below : (ℕ → Bool) → ℕ → Bool
holds_below f zero = true
holds_below f (suc n) = f n && holds_below f n

both_of : (x rest : Bool) → (x && rest) ≡ true → (x ≡ true) × (rest ≡ true)
both_of true rest h = (refl, h)
both_of false rest h = cc

holds_at : (f : ℕ → Bool) (n : ℕ) → holds_below f n ≡ true → (b : ℕ) → b < n → f b ≡ true
unfolding holds_below
holds_at f zero h b lt = absurd (omega arith)
holds_at f (suc n) h b lt =
    let both = both_of (f n) (holds_below f n) h in
    elim (cases_eq b n) [ inl same ↦ rw same both.0 | inr other ↦ holds_at f n both.1 b (omega arith) ]

-- a number stands for the value of a digit
stands_for : Option ℕ → ℕ → Bool
stands_for None x = nat_eq x 46
stands_for (Some v) x = nat_eq x v && nat_lt v 16

as_said : (value : Option ℕ) (x : ℕ) → stands_for value x ≡ true → MatchOption value (x ≡ 46) (λ v. (x ≡ v) × (v < 16))
unfolding stands_for
as_said None x h = grind (arith, nat_tests)
as_said (Some v) x h = grind (arith, nat_tests)

from_table : (table : List ℕ) (b : ℕ) → b < 256 → holds_below (λ k. stands_for (hex_value k) (get_or table k 0)) 256 ≡ true
    → MatchOption (hex_value b) (get_or table b 0 ≡ 46) (λ v. (get_or table b 0 ≡ v) × (v < 16))
from_table table b lt h = as_said (hex_value b) (get_or table b 0) (holds_at _ 256 h b lt)

pub returns : goal.returns
unfolding holds_below stands_for
returns c = from_table DIGITS c.args.digit (omega arith) refl
