-- The chat's state as bytes, and the state that bytes stand for.
use Rattle.std.specs.Prelude.{ℕ, List, ◌++◌, length, Option, Some}
use Rattle.std.specs.List.{flat_map}
use Rattle.byteorder.specs.Endian.{big_bytes}
pub use Rattle.big_endian.specs.Spelled.{address_bytes}
use Rattle.address.specs.declared.limits.TheConstants.{PAYLOAD}
use Rattle.chat_log.specs.declared.lines.Line.{Line}
use Rattle.big_endian.specs.Reading.{Read, ◌>>=◌, number_at, sized_bytes, sized_at, address_at, list_at, read_to_end}

-- ---- a payload: its length in two bytes, and the bytes

abbrev pub payload_bytes : List ℕ → List ℕ
payload_bytes payload = sized_bytes payload

abbrev pub payload_at : List ℕ → Read (List ℕ)
payload_at bytes = sized_at PAYLOAD bytes

-- ---- a line: its sender and its payload

abbrev pub line_bytes : Line → List ℕ
line_bytes l = address_bytes l.sender ++ payload_bytes l.payload

unfoldable pub line_at : List ℕ → Read Line
line_at bytes = do
  sender ← address_at bytes
  payload ← payload_at sender.1
  Some (record { sender = sender.0; payload = payload.0 }, payload.1)

-- ---- the state: the number of lines in width bytes, and the lines, the oldest first

abbrev pub chat_encode : ℕ → List Line → List ℕ
chat_encode width s = big_bytes width (length s) ++ flat_map line_bytes s

unfoldable pub lines_at : ℕ → ℕ → List ℕ → Read (List Line)
lines_at lines width bytes = do
  count ← number_at width 0 lines bytes
  list_at line_at count.0 count.1

-- the state that bytes stand for: nothing follows its last line
unfoldable pub chat_decode : ℕ → ℕ → List ℕ → Option (List Line)
chat_decode lines width bytes = read_to_end (lines_at lines width) bytes
