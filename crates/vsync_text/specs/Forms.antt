-- What the forms of fields are made of: hexadecimal digits, and lists joined by commas.
use Rattle.std.specs.Prelude.{ℕ, ◌+◌, ◌-◌, ◌*◌, ◌&&◌, List, [], ◌∷◌, Option, None, Some, length, nat_eq, nat_le, if◌then◌else◌}
use Rattle.std.specs.List.{slice_split}

infixl 10 ◌>>=◌
abbrev pub ◌>>=◌ : {A B : Type 0} → Option A → (A → Option B) → Option B
None >>= f = None
(Some x) >>= f = f x

-- one more in front, if it is there
abbrev pub in_front : {A : Type 0} → Option A → Option (List A) → Option (List A)
in_front None others = None
in_front (Some x) None = None
in_front (Some x) (Some others) = Some (x ∷ others)

-- the value of a lower case hexadecimal digit: 0 to 9, then a to f
abbrev pub hex_value : ℕ → Option ℕ
hex_value b =
    if nat_le 48 b && nat_le b 57 then Some (b - 48)
    else if nat_le 97 b && nat_le b 102 then Some (b - 87)
    else None

-- the byte of two digits
abbrev pub hex_byte : Option ℕ → Option ℕ → Option ℕ
hex_byte None low = None
hex_byte (Some high) None = None
hex_byte (Some high) (Some low) = Some (16 * high + low)

-- the bytes that digits spell, two digits a byte
abbrev pub bytes_of_hex : List ℕ → Option (List ℕ)
bytes_of_hex [] = Some []
bytes_of_hex (digit ∷ []) = None
bytes_of_hex (high ∷ low ∷ digits) = in_front (hex_byte (hex_value high) (hex_value low)) (bytes_of_hex digits)

-- the parts of a text between its commas
abbrev pub parts_of : List ℕ → List (List ℕ)
parts_of text = slice_split (λ b. nat_eq b 44) text

-- the parts of what is left behind a comma, if something is
abbrev pub parts_left : Option (List ℕ) → List (List ℕ)
parts_left None = []
parts_left (Some text) = parts_of text

-- how much is left, the comma counted
abbrev pub left_len : Option (List ℕ) → ℕ
left_len None = 0
left_len (Some text) = 1 + length text

-- what parts spell, if each of them spells something
abbrev pub each_of : {A : Type 0} → (List ℕ → Option A) → List (List ℕ) → Option (List A)
each_of spells [] = Some []
each_of spells (part ∷ parts) = in_front (spells part) (each_of spells parts)
