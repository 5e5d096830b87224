-- What a command writes that prints the states of a script's run.
use Rattle.std.specs.Prelude.{ℕ, List, Option, Result}
use Rattle.std.specs.List.{filter_map, range_with_len}
use Rattle.std.specs.Option.{option_map}
use Rattle.address.specs.Ids.{Address}
use Rattle.state_transfer.specs.Meanings.{Meaning}
use Rattle.trace_props.specs.declared.event.Event.{Event}
use Rattle.trace_props.specs.State.{state_of}
use Rattle.world_model.specs.Histories.{running}
use Rattle.vsync_text.specs.declared.script.Script.{Script}
use Rattle.vsync_text.specs.declared.fault.Fault.{Fault}
use Rattle.vsync_text.specs.declared.status.Status.{Status}
use Rattle.vsync_text.specs.Outcomes.{IsScriptText, IsAnswer}
use Rattle.commands.specs.Outcomes.{IsEndText}
use Rattle.address.specs.declared.limits.TheConstants.{GREATEST_NODE}

-- the line of the member that runs at a node, if one does: it shows the state that the trace says
abbrev pub state_line_at : {S : Type 0} → Meaning S → (Address → S → List ℕ) → List Event → ℕ → Option (List ℕ)
state_line_at meaning line_of t n = option_map (λ p. line_of p (state_of meaning p t)) (running n t)

-- the lines of the running members at the nodes from 1 to n, by node
abbrev pub state_lines_to : {S : Type 0} → Meaning S → (Address → S → List ℕ) → List Event → ℕ → List (List ℕ)
state_lines_to meaning line_of t n = filter_map (state_line_at meaning line_of t) (range_with_len 1 n)

-- the lines of all running members, by node
unfoldable pub state_lines_of : {S : Type 0} → Meaning S → (Address → S → List ℕ) → List Event → List (List ℕ)
state_lines_of meaning line_of t = state_lines_to meaning line_of t GREATEST_NODE

-- the texts of the states after a script's run
abbrev pub IsStatesText : {S : Type 0} → Meaning S → (Address → S → List ℕ) → Script → Status → List ℕ → Type 0
IsStatesText meaning line_of = IsEndText meaning (λ h. state_lines_of meaning line_of h.trace)

-- a script is run from a reader, its texts read as payloads, and the states are written to a writer
abbrev pub RunsStates : {S : Type 0} → Meaning S → (List ℕ → Result (List ℕ) Fault) → (Address → S → List ℕ) → Option (List ℕ) → Option (List ℕ) → Option (List ℕ) → Status → Type 0
RunsStates meaning payload_of line_of left old new status = IsAnswer (IsScriptText payload_of (IsStatesText meaning line_of)) left old new status
