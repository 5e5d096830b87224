-- What is stamped with a view spells it (docs/RECEIVERS.md, "The map's commands").
use Rattle.std.specs.Prelude.{◌≡◌, ℕ, List, Some, Ok}
use Rattle.address.specs.Ids.{ViewId}
use Rattle.keyed_state.specs.Tokens.{IsViewId}
use Rattle.replicated_map.specs.declared.command.Command.{Command}
use Rattle.replicated_map.specs.Commands.{IsCommand, command_of, in_view}
use Rattle.replicated_map.specs.Words.{map_payload_within}

-- a command spells a view, if it gives a value: stamped with it, it stays as it is
abbrev pub Spells : ViewId → Command → Type 0
Spells view c = in_view view c ≡ c

-- STAMPED SPELLS: a command that is stamped anew with a view can be spelled, and spells that view
abbrev pub StampedSpells : Type 0
StampedSpells = (view : ViewId) (c : Command) → IsViewId view → IsCommand c → IsCommand (in_view view c) × Spells view (in_view view c)

-- SAID SPELLS: the payload of words that are said at a member spells the view in which the member is
abbrev pub SaidSpells : Type 0
SaidSpells = (view : ViewId) (text payload : List ℕ) (c : Command) → IsViewId view → map_payload_within view text ≡ Ok payload → command_of payload ≡ Some c → Spells view c
