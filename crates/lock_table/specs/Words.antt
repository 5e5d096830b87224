-- The words of the commands of the table of locks in a script: `acquire VIEW NAME`, `release VIEW NAME` and `roll VIEW MEMBERS`.
use Rattle.std.specs.Prelude.{ℕ, List, Option, Result, Ok, Err, codes, if◌then◌else◌}
use Rattle.std.specs.Str.{bytes_eq}
use Rattle.address.specs.Ids.{ViewId}
use Rattle.view.specs.Members.{View}
use Rattle.vsync_text.specs.declared.fault.Fault.{Fault}
use Rattle.vsync_text.specs.declared.fault.Fault.TheVariants.{BadNumber}
use Rattle.vsync_text.specs.Lines.{field_of, behind_field}
use Rattle.vsync_text.specs.Fields.{Read, ◌>>=◌, made, spelled_at, last}
use Rattle.vsync_text.specs.Spelling.{view_id_of_text, view_of_text}
use Rattle.keyed_state.specs.Words.{key_field}
use Rattle.lock_table.specs.declared.command.Command.{Command}
use Rattle.lock_table.specs.declared.command.Command.TheVariants.{Acquire, Release, Roll}
use Rattle.lock_table.specs.Commands.{command_bytes}

-- the next field as a view id, as `3@1.1`
abbrev pub view_id_field : Option (List ℕ) → Read ViewId
view_id_field rest = spelled_at view_id_of_text rest

-- the next field as the members of the view of an id, joined by commas
abbrev pub members_field : ViewId → Option (List ℕ) → Read View
members_field id rest = spelled_at (view_of_text id) rest

-- a view id, and the name with which a command ends
abbrev pub named : Option (List ℕ) → Result (ViewId × List ℕ) Fault
named rest = do
  view ← view_id_field rest
  name ← last (key_field view.1)
  Ok (view.0, name)

-- ---- the commands, by what stands behind their words

abbrev pub acquire_said : Option (List ℕ) → Result Command Fault
acquire_said rest = made (λ read. Acquire read.0 read.1) (named rest)

abbrev pub release_said : Option (List ℕ) → Result Command Fault
release_said rest = made (λ read. Release read.0 read.1) (named rest)

abbrev pub roll_said : Option (List ℕ) → Result Command Fault
roll_said rest = do
  id ← view_id_field rest
  view ← last (members_field id.0 id.1)
  Ok (Roll view)

-- the command that a text says
abbrev pub command_said : List ℕ → Result Command Fault
command_said text =
    if bytes_eq (field_of text) (codes "acquire") then acquire_said (behind_field text)
    else if bytes_eq (field_of text) (codes "release") then release_said (behind_field text)
    else if bytes_eq (field_of text) (codes "roll") then roll_said (behind_field text)
    else Err BadNumber

-- the payload of a text: the spelling of the command that it says
abbrev pub lock_payload : List ℕ → Result (List ℕ) Fault
lock_payload text = made command_bytes (command_said text)

-- the command that a text says at a member in the view of an id: `acquire NAME` or `release NAME`, sent in that view
abbrev pub command_said_in : ViewId → List ℕ → Result Command Fault
command_said_in view text =
    if bytes_eq (field_of text) (codes "acquire") then made (Acquire view) (last (key_field (behind_field text)))
    else if bytes_eq (field_of text) (codes "release") then made (Release view) (last (key_field (behind_field text)))
    else Err BadNumber

abbrev pub lock_payload_within : ViewId → List ℕ → Result (List ℕ) Fault
lock_payload_within view text = made command_bytes (command_said_in view text)
