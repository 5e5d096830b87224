-- Bytes that are held alone, or shared.
use Rattle.std.specs.Prelude.{ℕ, List}
use Rattle.address.specs.declared.bytes.Held.{Held}
use Rattle.address.specs.declared.bytes.Held.TheVariants.{Alone, Shared}

-- the bytes, whoever holds them
abbrev pub bytes_held : Held → List ℕ
bytes_held (Alone items) = items.items
bytes_held (Shared items) = items.value.items
