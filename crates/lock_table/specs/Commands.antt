-- How payloads spell commands, and what a message makes of the table.
use Rattle.std.specs.Prelude.{◌≡◌, ℕ, List, ◌++◌, Option, Some, None, ◌==◌, if◌then◌else◌}
use Rattle.std.specs.Option.{is_none}
use Rattle.std.specs.List.{AllByRecursion}
use Rattle.byteorder.specs.Endian.{big_bytes}
use Rattle.address.specs.Ids.{Address, ViewId, same_view_id, IsAddress}
use Rattle.view.specs.Members.{View}
use Rattle.view.specs.View.{view_refusal}
use Rattle.address.specs.declared.limits.TheConstants.{MEMBERS}
use Rattle.big_endian.specs.Spelled.{address_bytes}
use Rattle.big_endian.specs.Reading.{Read, ◌>>=◌, number_at, address_at, read_to_end}
use Rattle.keyed_state.specs.Keys.{IsKey, key_bytes, key_at}
use Rattle.lock_table.specs.declared.command.Command.{Command}
use Rattle.lock_table.specs.declared.command.Command.TheVariants.{Acquire, Release, Roll}
use Rattle.keyed_state.specs.Tokens.{IsViewId}
use Rattle.lock_table.specs.Locks.{Table, carried_out}
use Rattle.keyed_state.specs.Spelling.{view_id_bytes, view_id_at, made_at, both_at, counted_at, counted_bytes}

-- ---- a view: its id, the number of its members in a byte, and they

pub record IsView (v : View) : Type 0 where
  pub id : IsViewId v.id
  pub members : AllByRecursion IsAddress v.members
  pub sound : view_refusal v.id v.members ≡ None

abbrev pub view_bytes : View → List ℕ
view_bytes v = view_id_bytes v.id ++ counted_bytes 1 address_bytes v.members

unfoldable pub view_at : List ℕ → Read View
view_at bytes = do
  parts ← both_at view_id_at (counted_at 1 1 MEMBERS address_at) bytes
  if is_none (view_refusal parts.0.0 parts.0.1) then Some (record { id = parts.0.0; members = parts.0.1 }, parts.1) else None

-- ---- a request for a lock or of its release: the id of the view in which it is sent, and the lock's name

abbrev pub IsRequest : ViewId × List ℕ → Type 0
IsRequest r = IsViewId r.0 × IsKey r.1

abbrev pub request_bytes : ViewId × List ℕ → List ℕ
request_bytes r = view_id_bytes r.0 ++ key_bytes r.1

abbrev pub request_at : List ℕ → Read (ViewId × List ℕ)
request_at bytes = both_at view_id_at key_at bytes

-- ---- a command: its kind in a byte, and its parts

abbrev pub command_bytes : Command → List ℕ
command_bytes (Acquire view name) = big_bytes 1 1 ++ request_bytes (view, name)
command_bytes (Release view name) = big_bytes 1 2 ++ request_bytes (view, name)
command_bytes (Roll view) = big_bytes 1 3 ++ view_bytes view

-- the command of a kind that is a request
abbrev pub requested : ℕ → ViewId × List ℕ → Command
requested kind r = if kind == 1 then Acquire r.0 r.1 else Release r.0 r.1

unfoldable pub command_at : List ℕ → Read Command
command_at bytes = do
  kind ← number_at 1 1 3 bytes
  if kind.0 == 3 then made_at Roll (view_at kind.1) else made_at (requested kind.0) (request_at kind.1)

-- the command that a payload is: nothing follows it
unfoldable pub command_of : List ℕ → Option Command
command_of payload = read_to_end command_at payload

-- the commands that can be spelled
abbrev pub IsCommand : Command → Type 0
IsCommand (Acquire view name) = IsRequest (view, name)
IsCommand (Release view name) = IsRequest (view, name)
IsCommand (Roll view) = IsView view

-- a command as it is sent in the view of an id: a roll is sent in the view that it names alone
abbrev pub in_view : ViewId → Command → Option Command
in_view v (Acquire view name) = Some (Acquire v name)
in_view v (Release view name) = Some (Release v name)
in_view v (Roll view) = if same_view_id view.id v then Some (Roll view) else None

-- a payload that is no command changes nothing
abbrev pub after_command : Address → Table → Option Command → Table
after_command from s None = s
after_command from s (Some c) = carried_out from c s

-- what a message makes of the table
abbrev pub table_apply : Table → Address → List ℕ → Table
table_apply s from payload = after_command from s (command_of payload)
