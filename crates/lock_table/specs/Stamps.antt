-- What is stamped with a view spells it (docs/RECEIVERS.md, "The table of locks").
use Rattle.std.specs.Prelude.{◌≡◌, ℕ, List, Some, Ok}
use Rattle.address.specs.Ids.{ViewId}
use Rattle.view.specs.Members.{View}
use Rattle.lock_table.specs.declared.command.Command.{Command}
use Rattle.lock_table.specs.declared.command.Command.TheVariants.{Roll}
use Rattle.keyed_state.specs.Tokens.{IsViewId}
use Rattle.lock_table.specs.Locks.{view_of}
use Rattle.lock_table.specs.Commands.{IsCommand, command_bytes, command_of, in_view}
use Rattle.lock_table.specs.Words.{lock_payload_within}

-- STAMPED SPELLS: a command that is stamped anew with a view can be spelled, and spells that view
abbrev pub StampedSpells : Type 0
StampedSpells = (view : ViewId) (c d : Command) → IsViewId view → IsCommand c → in_view view c ≡ Some d → IsCommand d × (view_of d ≡ view)

-- SAID SPELLS: the payload of words that are said at a member spells the view in which the member is
abbrev pub SaidSpells : Type 0
SaidSpells = (view : ViewId) (text payload : List ℕ) (c : Command) → IsViewId view → lock_payload_within view text ≡ Ok payload → command_of payload ≡ Some c → view_of c ≡ view

-- FIRST SPELLS: the roll that the coordinator of a view sends first in it spells that view
abbrev pub FirstSpells : Type 0
FirstSpells = (view : View) (c : Command) → IsViewId view.id → command_of (command_bytes (Roll view)) ≡ Some c → view_of c ≡ view.id
