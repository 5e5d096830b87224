-- Keys, and how they are spelled.
use Rattle.std.specs.Prelude.{ℕ, ◌≤◌, List, ◌++◌, length}
use Rattle.byteorder.specs.Endian.{big_bytes}
use Rattle.big_endian.specs.Reading.{Read, ◌>>=◌, bytes_at, number_at}
use Rattle.keyed_state.specs.declared.entries.TheConstants.{KEY}

-- the keys that there are: of 1 to 64 bytes
abbrev pub IsKey : List ℕ → Type 0
IsKey k = (1 ≤ length k) × (length k ≤ KEY)

-- a key is spelled as its length in a byte, and its bytes
abbrev pub key_bytes : List ℕ → List ℕ
key_bytes k = big_bytes 1 (length k) ++ k

unfoldable pub key_at : List ℕ → Read (List ℕ)
key_at bytes = do
  len ← number_at 1 1 KEY bytes
  bytes_at len.0 len.1
