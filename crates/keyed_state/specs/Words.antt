-- Keys as fields of a line.
use Rattle.std.specs.Prelude.{ℕ, List, Option, None, Some, length, nat_le, ◌&&◌, if◌then◌else◌}
use Rattle.vsync_text.specs.Fields.{Read, spelled_at}
use Rattle.keyed_state.specs.declared.entries.TheConstants.{KEY}

-- the key that a field is: 1 to 64 bytes
abbrev pub key_of_text : List ℕ → Option (List ℕ)
key_of_text field = if nat_le 1 (length field) && nat_le (length field) KEY then Some field else None

-- the next field as a key
abbrev pub key_field : Option (List ℕ) → Read (List ℕ)
key_field rest = spelled_at key_of_text rest
