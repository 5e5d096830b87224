-- The chunks of a state: how many bytes it may have, which chunks it has, and how long each is.
use Rattle.std.specs.Prelude.{◌≡◌, ◌≤◌, ◌<◌, ◌+◌, ◌-◌, ◌*◌, ℕ, List, length, take, drop, min}
use Rattle.address.specs.declared.limits.TheConstants.{WHOLE_STATE, STATE, CHUNK}

-- how many bytes a state has that goes in chunks
abbrev pub IsTotal : ℕ → Type 0
IsTotal total = (WHOLE_STATE < total) × (total ≤ STATE)

-- how many bytes lie before the chunk of an index
abbrev pub before_chunk : ℕ → ℕ
before_chunk index = CHUNK * (index - 1)

-- there is a chunk with this index
abbrev pub IsPlace : ℕ → ℕ → Type 0
IsPlace total index = (1 ≤ index) × (before_chunk index < total)

abbrev pub chunk_len : ℕ → ℕ → ℕ
chunk_len total index = min (total - before_chunk index) CHUNK

-- as many bytes as the chunk has
abbrev pub IsCut : ℕ → ℕ → List ℕ → Type 0
IsCut total index bytes = length bytes ≡ chunk_len total index

-- the bytes of the chunk of an index
abbrev pub chunk_of : List ℕ → ℕ → List ℕ
chunk_of state index = take CHUNK (drop (before_chunk index) state)
