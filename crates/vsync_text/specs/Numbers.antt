-- Numbers as a text spells them.
use Rattle.std.specs.Prelude.{ℕ, ◌+◌, ◌-◌, ◌*◌, Bool, true, false, ◌&&◌, List, [], ◌∷◌, Option, None, Some, nat_eq, nat_le, not, if◌then◌else◌}
use Rattle.std.specs.List.{list_all}
use Rattle.std.specs.Char.{is_ascii_digit}

-- the number that digits go on with
abbrev pub value_after : ℕ → List ℕ → ℕ
value_after n [] = n
value_after n (digit ∷ digits) = value_after (10 * n + (digit - 48)) digits

-- the number that digits spell
abbrev pub value_of : List ℕ → ℕ
value_of digits = value_after 0 digits

-- one digit, or several of which the first is not 0
abbrev pub has_plain_front : List ℕ → Bool
has_plain_front [] = false
has_plain_front (digit ∷ []) = true
has_plain_front (digit ∷ more ∷ digits) = not (nat_eq digit 48)

-- decimal digits without leading zeros
abbrev pub is_plain : List ℕ → Bool
is_plain digits = has_plain_front digits && list_all is_ascii_digit digits

-- the number from low to high that a field spells, if it spells one
abbrev pub number_in : ℕ → ℕ → List ℕ → Option ℕ
number_in low high field =
    if is_plain field && nat_le low (value_of field) && nat_le (value_of field) high then Some (value_of field) else None
