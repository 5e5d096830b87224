-- Bytes, and what an address is spelled in.
use Rattle.std.specs.Prelude.{ℕ, ◌<◌, List, ◌++◌, get_or}
use Rattle.byteorder.specs.Endian.{big_bytes}
use Rattle.address.specs.Ids.{Address}

-- the node in two bytes, the incarnation in four
abbrev pub address_bytes : Address → List ℕ
address_bytes a = big_bytes 2 a.node ++ big_bytes 4 a.incarnation

-- numbers that are bytes, each below 256
abbrev pub IsBytes : List ℕ → Type 0
IsBytes bytes = (i : ℕ) → get_or bytes i 0 < 256
