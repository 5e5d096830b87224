-- The name of a group: its length in a byte, and its bytes.
use Rattle.std.specs.Prelude.{ℕ, List, ◌++◌, length, Ok, Err, if◌then◌else◌}
use Rattle.std.specs.List.{list_all}
use Rattle.byteorder.specs.Endian.{big_bytes}
use Rattle.address.specs.declared.limits.TheConstants.{GROUP_NAME}
use Rattle.wire_values.specs.Names.{is_name_byte}
use Rattle.wire_values.specs.declared.error.WireError.TheVariants.{Length, Value}
use Rattle.wire_values.specs.Reading.{Read, ◌>>=◌, bytes_at, number_at}

abbrev pub group_bytes : List ℕ → List ℕ
group_bytes name = big_bytes 1 (length name) ++ name

unfoldable pub group_at : List ℕ → Read (List ℕ)
group_at bytes = do
  len ← number_at 1 1 GROUP_NAME Length bytes
  name ← bytes_at len.0 len.1
  if list_all is_name_byte name.0 then Ok name else Err Value
