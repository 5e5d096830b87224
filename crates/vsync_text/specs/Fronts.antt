-- What stands at the front of a text: digits, a number, an address, a view id, each with what is behind it.
use Rattle.std.specs.Prelude.{ℕ, List, [], ◌∷◌, Option, None, Some, nat_eq, if◌then◌else◌}
use Rattle.std.specs.Char.{is_ascii_digit}
use Rattle.address.specs.Ids.{Address, ViewId}
use Rattle.address.specs.declared.limits.TheConstants.{GREATEST_NUMBER, GREATEST_INCARNATION, GREATEST_NODE}
use Rattle.vsync_text.specs.Numbers.{number_in}
use Rattle.vsync_text.specs.Forms.{◌>>=◌}

-- the digits with which a text begins
abbrev pub digits_of : List ℕ → List ℕ
digits_of [] = []
digits_of (b ∷ bs) = if is_ascii_digit b then b ∷ digits_of bs else []

-- the text behind them
abbrev pub behind_digits : List ℕ → List ℕ
behind_digits [] = []
behind_digits (b ∷ bs) = if is_ascii_digit b then behind_digits bs else b ∷ bs

-- the text behind its first byte, if that is this one
abbrev pub behind_mark : ℕ → List ℕ → Option (List ℕ)
behind_mark byte [] = None
behind_mark byte (b ∷ bs) = if nat_eq b byte then Some bs else None

-- a value with the text behind it, if it is there
abbrev pub with_behind : {A : Type 0} → Option A → List ℕ → Option (A × List ℕ)
with_behind None rest = None
with_behind (Some x) rest = Some (x, rest)

-- a number from 1 to high
unfoldable pub number_in_front : ℕ → List ℕ → Option (ℕ × List ℕ)
number_in_front high text = with_behind (number_in 1 high (digits_of text)) (behind_digits text)

-- a number up to high, this mark and what is read behind it, as what is made of both
abbrev pub both_in_front : {A B : Type 0} → (ℕ → A → B) → (mark high : ℕ) → (List ℕ → Option (A × List ℕ)) → List ℕ → Option (B × List ℕ)
both_in_front make mark high front text = do
  number ← number_in_front high text
  rest ← behind_mark mark number.1
  part ← front rest
  Some (make number.0 part.0, part.1)

-- `N.I`
unfoldable pub address_in_front : List ℕ → Option (Address × List ℕ)
address_in_front text = both_in_front (λ n i. record { node = n; incarnation = i }) 46 GREATEST_NODE (number_in_front GREATEST_INCARNATION) text

-- `C@N.I`
unfoldable pub view_id_in_front : List ℕ → Option (ViewId × List ℕ)
view_id_in_front text = both_in_front (λ n c. record { counter = n; creator = c }) 64 GREATEST_NUMBER address_in_front text

-- what is left of a line whose field ends where a text begins, if it does: nothing, or the text behind the space
abbrev pub left_behind : List ℕ → Option (Option (List ℕ))
left_behind [] = Some None
left_behind (b ∷ bs) = if nat_eq b 32 then Some (Some bs) else None
