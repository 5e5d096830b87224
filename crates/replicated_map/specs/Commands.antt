-- The commands of the map: what each does, and how payloads spell them.
use Rattle.std.specs.Prelude.{ℕ, List, ◌++◌, Option, Some, None, Bool, true, false, ◌==◌, nat_eq, if◌then◌else◌}
use Rattle.std.specs.Cmp.Lexicographic.{pointwise}
use Rattle.byteorder.specs.Endian.{big_bytes}
use Rattle.address.specs.Ids.{Address, ViewId}
use Rattle.big_endian.specs.Reading.{Read, ◌>>=◌, number_at, read_to_end}
use Rattle.keyed_state.specs.Keys.{IsKey, key_bytes, key_at}
use Rattle.keyed_state.specs.declared.token.Token.{Token}
use Rattle.keyed_state.specs.Tokens.{is_token, IsViewId, IsToken}
use Rattle.keyed_state.specs.Spelling.{view_id_bytes, view_id_at, token_bytes, token_at, made_at, both_at}
use Rattle.replicated_map.specs.declared.command.Command.{Command}
use Rattle.replicated_map.specs.declared.command.Command.TheVariants.{Put, Remove, Replace, Clear, ReplaceAt, RemoveAt}
use Rattle.replicated_map.specs.declared.entries.Held.{Held}
use Rattle.replicated_map.specs.Entries.{MapState, IsValue, held_of, value_in, put_within, removed, cleared}
use Rattle.replicated_map.specs.Values.{value_bytes, value_at}

-- whether a key's value is the one that is expected
abbrev pub is_expected : Option (List ℕ) → Option (List ℕ) → Bool
is_expected None None = true
is_expected None (Some w) = false
is_expected (Some v) None = false
is_expected (Some v) (Some w) = pointwise nat_eq v w

-- whether what a key has is of a version
abbrev pub has_version : Option Held → Token → Bool
has_version None version = false
has_version (Some h) version = is_token h.version version

-- what a command makes of a map
abbrev pub carried_out : MapState → Command → MapState
carried_out s (Put view k v) = put_within view k v s
carried_out s (Remove k) = removed k s
carried_out s (Replace view w k v) = if is_expected (value_in (held_of k s)) w then put_within view k v s else s
carried_out s Clear = cleared s
carried_out s (ReplaceAt view version k v) = if has_version (held_of k s) version then put_within view k v s else s
carried_out s (RemoveAt version k) = if has_version (held_of k s) version then removed k s else s

-- a command as it is sent in the view of an id: those that give a value spell it
abbrev pub in_view : ViewId → Command → Command
in_view at (Put view k v) = Put at k v
in_view at (Remove k) = Remove k
in_view at (Replace view w k v) = Replace at w k v
in_view at Clear = Clear
in_view at (ReplaceAt view version k v) = ReplaceAt at version k v
in_view at (RemoveAt version k) = RemoveAt version k

-- ---- how a payload spells a command: its kind in a byte, and its parts

-- an expected value: a byte that says whether there is one, and it
abbrev pub expected_bytes : Option (List ℕ) → List ℕ
expected_bytes None = big_bytes 1 0
expected_bytes (Some w) = big_bytes 1 1 ++ value_bytes w

-- a key and its new value
abbrev pub pair_bytes : List ℕ → List ℕ → List ℕ
pair_bytes k v = key_bytes k ++ value_bytes v

abbrev pub command_bytes : Command → List ℕ
command_bytes (Put view k v) = big_bytes 1 1 ++ (view_id_bytes view ++ pair_bytes k v)
command_bytes (Remove k) = big_bytes 1 2 ++ key_bytes k
command_bytes (Replace view w k v) = big_bytes 1 3 ++ (view_id_bytes view ++ (expected_bytes w ++ pair_bytes k v))
command_bytes Clear = big_bytes 1 4
command_bytes (ReplaceAt view version k v) = big_bytes 1 5 ++ (view_id_bytes view ++ (token_bytes version ++ pair_bytes k v))
command_bytes (RemoveAt version k) = big_bytes 1 6 ++ (token_bytes version ++ key_bytes k)

-- ---- what a payload says

unfoldable pub expected_at : List ℕ → Read (Option (List ℕ))
expected_at bytes = do
  flag ← number_at 1 0 1 bytes
  if flag.0 == 0 then Some (None, flag.1) else made_at Some (value_at flag.1)

abbrev pub pair_at : List ℕ → Read (List ℕ × List ℕ)
pair_at bytes = both_at key_at value_at bytes

unfoldable pub put_at : List ℕ → Read Command
put_at bytes = made_at (λ p. Put p.0 p.1.0 p.1.1) (both_at view_id_at pair_at bytes)

unfoldable pub replace_at : List ℕ → Read Command
replace_at bytes = made_at (λ p. Replace p.0 p.1.0 p.1.1.0 p.1.1.1) (both_at view_id_at (both_at expected_at pair_at) bytes)

unfoldable pub replace_version_at : List ℕ → Read Command
replace_version_at bytes = made_at (λ p. ReplaceAt p.0 p.1.0 p.1.1.0 p.1.1.1) (both_at view_id_at (both_at token_at pair_at) bytes)

unfoldable pub remove_version_at : List ℕ → Read Command
remove_version_at bytes = made_at (λ p. RemoveAt p.0 p.1) (both_at token_at key_at bytes)

-- the command of a kind
abbrev pub command_by : ℕ → List ℕ → Read Command
command_by kind bytes =
    if kind == 1 then put_at bytes
    else if kind == 2 then made_at Remove (key_at bytes)
    else if kind == 3 then replace_at bytes
    else if kind == 4 then Some (Clear, bytes)
    else if kind == 5 then replace_version_at bytes
    else remove_version_at bytes

-- the command that bytes begin with
unfoldable pub command_at : List ℕ → Read Command
command_at bytes = do
  kind ← number_at 1 1 6 bytes
  command_by kind.0 kind.1

-- the command that a payload is: nothing follows it
unfoldable pub command_of : List ℕ → Option Command
command_of payload = read_to_end command_at payload

-- the commands that can be spelled
abbrev pub IsExpected : Option (List ℕ) → Type 0
IsExpected None = Unit {0}
IsExpected (Some w) = IsValue w

abbrev pub IsPair : List ℕ × List ℕ → Type 0
IsPair p = IsKey p.0 × IsValue p.1

abbrev pub IsCommand : Command → Type 0
IsCommand (Put view k v) = IsViewId view × IsPair (k, v)
IsCommand (Remove k) = IsKey k
IsCommand (Replace view w k v) = IsViewId view × IsExpected w × IsPair (k, v)
IsCommand Clear = Unit {0}
IsCommand (ReplaceAt view version k v) = IsViewId view × IsToken version × IsPair (k, v)
IsCommand (RemoveAt version k) = IsToken version × IsKey k

-- a payload that is no command changes nothing
abbrev pub after_command : MapState → Option Command → MapState
after_command s None = s
after_command s (Some c) = carried_out s c

-- a message asks what its payload says, whoever sent it
abbrev pub map_apply : MapState → Address → List ℕ → MapState
map_apply s from payload = after_command s (command_of payload)
