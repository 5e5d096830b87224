-- The words of the map's commands: `put KEY VALUE`, `remove KEY`, `replace KEY OLD NEW`, `clear`, `replace_at KEY VERSION NEW` and `remove_at KEY VERSION`.
use Rattle.std.specs.Prelude.{ℕ, List, Option, None, Some, Result, Ok, Err, length, codes, nat_le, if◌then◌else◌}
use Rattle.std.specs.Str.{bytes_eq}
use Rattle.address.specs.Ids.{ViewId}
use Rattle.vsync_text.specs.declared.fault.Fault.{Fault}
use Rattle.vsync_text.specs.declared.fault.Fault.TheVariants.{BadNumber, MissingField}
use Rattle.vsync_text.specs.Lines.{field_of, behind_field}
use Rattle.vsync_text.specs.Fields.{Read, ◌>>=◌, made, spelled_at, last, end_at}
use Rattle.keyed_state.specs.Words.{key_field}
use Rattle.keyed_state.specs.declared.token.Token.{Token}
use Rattle.keyed_state.specs.Tokens.{least_token}
use Rattle.keyed_state.specs.TokenText.{token_of_text}
use Rattle.replicated_map.specs.declared.TheConstants.{VALUE}
use Rattle.replicated_map.specs.declared.command.Command.{Command}
use Rattle.replicated_map.specs.declared.command.Command.TheVariants.{Put, Remove, Replace, Clear, ReplaceAt, RemoveAt}
use Rattle.replicated_map.specs.Commands.{command_bytes}

-- a value: at most 400 bytes
abbrev pub value_of_text : List ℕ → Option (List ℕ)
value_of_text text = if nat_le (length text) VALUE then Some text else None

-- the value that OLD says: a field, `-` for none
abbrev pub some_expected : Option (List ℕ) → Option (Option (List ℕ))
some_expected None = None
some_expected (Some value) = Some (Some value)

abbrev pub expected_of : List ℕ → Option (Option (List ℕ))
expected_of field = if bytes_eq field (codes "-") then Some None else some_expected (value_of_text field)

abbrev pub expected_field : Option (List ℕ) → Read (Option (List ℕ))
expected_field rest = spelled_at expected_of rest

-- the value that VALUE and NEW say: all that is left of the line
abbrev pub whole_value : Option (List ℕ) → Result (List ℕ) Fault
whole_value None = Err BadNumber
whole_value (Some value) = Ok value

abbrev pub last_value : Option (List ℕ) → Result (List ℕ) Fault
last_value None = Err MissingField
last_value (Some text) = whole_value (value_of_text text)

-- the version that VERSION says: a field, as `3@1.1/2`
abbrev pub version_field : Option (List ℕ) → Read Token
version_field rest = spelled_at token_of_text rest

-- ---- the commands that are sent in the view of an id, by what stands behind their words

abbrev pub put_said : ViewId → Option (List ℕ) → Result Command Fault
put_said view rest = do
  key ← key_field rest
  value ← last_value key.1
  Ok (Put view key.0 value)

abbrev pub remove_said : Option (List ℕ) → Result Command Fault
remove_said rest = made Remove (last (key_field rest))

abbrev pub replaced : ViewId → List ℕ → Option (List ℕ) → Result Command Fault
replaced view key rest = do
  expected ← expected_field rest
  value ← last_value expected.1
  Ok (Replace view expected.0 key value)

abbrev pub replace_said : ViewId → Option (List ℕ) → Result Command Fault
replace_said view rest = do
  key ← key_field rest
  replaced view key.0 key.1

abbrev pub clear_said : Option (List ℕ) → Result Command Fault
clear_said rest = made (λ end. Clear) (end_at rest)

abbrev pub version_replaced : ViewId → List ℕ → Option (List ℕ) → Result Command Fault
version_replaced view key rest = do
  version ← version_field rest
  value ← last_value version.1
  Ok (ReplaceAt view version.0 key value)

abbrev pub replace_at_said : ViewId → Option (List ℕ) → Result Command Fault
replace_at_said view rest = do
  key ← key_field rest
  version_replaced view key.0 key.1

abbrev pub remove_at_said : Option (List ℕ) → Result Command Fault
remove_at_said rest = do
  key ← key_field rest
  version ← last (version_field key.1)
  Ok (RemoveAt version key.0)

-- the command that a text says in the view of an id, by its first word
abbrev pub command_said : ViewId → List ℕ → Result Command Fault
command_said view text =
    if bytes_eq (field_of text) (codes "put") then put_said view (behind_field text)
    else if bytes_eq (field_of text) (codes "remove") then remove_said (behind_field text)
    else if bytes_eq (field_of text) (codes "replace") then replace_said view (behind_field text)
    else if bytes_eq (field_of text) (codes "clear") then clear_said (behind_field text)
    else if bytes_eq (field_of text) (codes "replace_at") then replace_at_said view (behind_field text)
    else if bytes_eq (field_of text) (codes "remove_at") then remove_at_said (behind_field text)
    else Err BadNumber

-- the payload of a text at a member in the view of an id: the spelling of the command that it says
abbrev pub map_payload_within : ViewId → List ℕ → Result (List ℕ) Fault
map_payload_within view text = made command_bytes (command_said view text)

-- the payload of a text of a script, which names no view: its command is sent in the least one, so that its version goes on from the last one
abbrev pub map_payload : List ℕ → Result (List ℕ) Fault
map_payload text = map_payload_within least_token.view text
