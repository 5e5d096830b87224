-- The lines of a text, and the fields of a line.
use Rattle.std.specs.Prelude.{ℕ, List, [], ◌∷◌, Option, None, Some, nat_eq, drop, if◌then◌else◌}
use Rattle.std.specs.List.{before_first, position_or_len}

-- a byte before the first of some lines
abbrev pub in_front : ℕ → List (List ℕ) → List (List ℕ)
in_front b [] = (b ∷ []) ∷ []
in_front b (line ∷ lines) = (b ∷ line) ∷ lines

-- the lines of a text: each ends with a line feed, and the last may lack it
abbrev pub lines_of : List ℕ → List (List ℕ)
lines_of [] = []
lines_of (b ∷ bs) = if nat_eq b 10 then [] ∷ lines_of bs else in_front b (lines_of bs)

-- the text before the first byte that is `byte`, all where there is none
abbrev pub before_byte : ℕ → List ℕ → List ℕ
before_byte byte text = before_first (λ b. nat_eq b byte) text

-- the text behind its first byte, if it has one
abbrev pub behind : List ℕ → Option (List ℕ)
behind [] = None
behind (b ∷ bs) = Some bs

-- the text behind the first byte that is `byte`, if there is one
abbrev pub behind_byte : ℕ → List ℕ → Option (List ℕ)
behind_byte byte text = behind (drop (position_or_len (λ b. nat_eq b byte) text) text)

-- the text before the first space, all where there is none
abbrev pub field_of : List ℕ → List ℕ
field_of text = before_byte 32 text

-- the text behind the first space, if there is one
abbrev pub behind_field : List ℕ → Option (List ℕ)
behind_field text = behind_byte 32 text
