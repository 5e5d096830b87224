-- Packets in one vector.
use Rattle.std.specs.Prelude.{◌≡◌, ◌≤◌, ◌+◌, ℕ, List, [], ◌∷◌, ◌⊎◌, length, take, drop, nat_le, Option, None, Some, if◌then◌else◌}
use Rattle.frames.specs.Frames.{last_behind}

-- bytes cut into packets of these lengths
abbrev pub cut : List ℕ → List ℕ → List (List ℕ)
cut [] bytes = []
cut (n ∷ lengths) bytes = take n bytes ∷ cut lengths (drop n bytes)

-- how many bytes they have
abbrev pub total : List ℕ → ℕ
total [] = 0
total (n ∷ lengths) = n + total lengths

-- packets of these lengths, of which so many are gone, with so many bytes; what stands behind `last` is the last one, if one is left
pub record IsRow (bytes lengths : List ℕ) (gone start last : ℕ) : Type 0 where
  pub some : gone ≤ length lengths
  pub front : start ≤ length bytes
  pub all : total (drop gone lengths) ≡ length (drop start bytes)
  pub back : last ≤ length bytes
  pub end : (drop gone lengths ≡ []) ⊎ (drop last bytes ≡ last_behind [] (cut (drop gone lengths) (drop start bytes)))

-- the first packet is given; one that is longer than the buffer is given as an empty one
abbrev pub Gives : List (List ℕ) → Option ℕ → List ℕ → List (List ℕ) → Type 0
Gives old None buffer new = (old ≡ []) × (new ≡ [])
Gives [] (Some n) buffer new = ⊥
Gives (p ∷ rest) (Some n) buffer new = (new ≡ rest) × (take n buffer ≡ (if nat_le (length p) (length buffer) then p else []))
