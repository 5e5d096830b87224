-- What happens in a deployment of members that keep the table, where each of them stamps what it sends with its view (docs/RECEIVERS.md, "The table of locks").
use Rattle.std.specs.Prelude.{◌≡◌, ◌⊎◌, ◌≤◌, ℕ, List, Some, Ok}
use Rattle.address.specs.Ids.{ViewId, IsAddress}
use Rattle.address.specs.declared.limits.TheConstants.{GREATEST_NUMBER}
use Rattle.view.specs.Members.{View}
use Rattle.trace_props.specs.declared.event.Event.{Event}
use Rattle.law_processes.specs.Deployments.{Step, Deployment, EachStep, IsHistory, nothing_yet, trace_of}
use Rattle.law_processes.specs.Said.{AreSaid, SaysOnly}
use Rattle.lock_table.specs.declared.command.Command.{Command}
use Rattle.lock_table.specs.Locks.{Table, view_of}
use Rattle.lock_table.specs.declared.command.Command.TheVariants.{Roll}
use Rattle.lock_table.specs.Commands.{command_bytes, command_of}
use Rattle.lock_table.specs.Words.{lock_payload_within}
use Rattle.lock_table.specs.Meanings.{table_meaning}
use Rattle.lock_fencing.specs.Fencing.{IsOfTables, SpellsViews}

-- a payload that is a command spells this view
abbrev pub Spells : ViewId → List ℕ → Type 0
Spells view payload = (c : Command) → command_of payload ≡ Some c → view_of c ≡ view

-- STAMPS: whoever calls a member to send a command stamps it: it spells the view in which the member is then
abbrev pub Stamps : Deployment Table → Step Table → Type 0
Stamps d x = SaysOnly Spells d x

-- what happens in a deployment of tables is a trace of members that keep the table
abbrev pub DeploymentsAreOfTables : Type 0
DeploymentsAreOfTables = (group : List ℕ) (steps : List (Step Table)) → IsHistory table_meaning group steps → IsOfTables (trace_of steps)

-- where each caller stamps what it sends, each command spells the view in which it is sent
abbrev pub StampedSpell : Type 0
StampedSpell = (group : List ℕ) (steps : List (Step Table)) → IsHistory table_meaning group steps → EachStep Stamps nothing_yet steps → SpellsViews (trace_of steps)

-- what a node of the program may say in the view of an id: a text says it there, or it is the roll to that view
abbrev pub MaySay : ViewId → List ℕ → Type 0
MaySay v payload =
    ((1 ≤ v.counter) × (v.counter ≤ GREATEST_NUMBER) × IsAddress v.creator)
    × (((text : List ℕ) × (lock_payload_within v text ≡ Ok payload)) ⊎ ((view : View) × (view.id ≡ v) × (Some (command_bytes (Roll view)) ≡ Some payload)))

-- where each message that was sent was said so, each command spells the view in which it is sent
abbrev pub SaidSpell : Type 0
SaidSpell = (events : List Event) → AreSaid MaySay events → SpellsViews events
