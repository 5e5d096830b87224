-- What is written of a script that is run.
use Rattle.std.specs.Prelude.{List, ℕ, ◌++◌, Option, take}
use Rattle.std.specs.List.{concat}
use Rattle.state_transfer.specs.Meanings.{Meaning}
use Rattle.trace_props.specs.Places.{EachPlace}
use Rattle.trace_props.specs.Synchrony.{IsWellOrdered, IsVirtuallySynchronous}
use Rattle.law_processes.specs.Replicas.{ReplicasAgree}
use Rattle.world_model.specs.declared.WorldEvent.{WorldEvent}
use Rattle.world_model.specs.Faithful.{IsFaithful}
use Rattle.world_model.specs.Histories.{History}
use Rattle.world.specs.Worlds.{WorldModel, no_world, Runs as WorldRuns}
use Rattle.vsync_text.specs.declared.script.Script.{Script}
use Rattle.vsync_text.specs.Script.{as_written}
use Rattle.vsync_text.specs.Runs.{lines_of_run, text_of_run}
use Rattle.vsync_text.specs.declared.status.Status.{Status}
use Rattle.vsync_text.specs.declared.status.Status.TheVariants.{Done, Memory}
use Rattle.vsync_text.specs.Outcomes.{IsScriptText, IsAnswer, memory_line}

-- a world came from nothing by exactly these events, each a world step: its history is faithful, and its trace is virtually synchronous,
-- well ordered at every place, where its members' copies of the state agree
pub record Ran {S : Type 0} (meaning : Meaning S) (events : List WorldEvent) (w : WorldModel S) : Type 0 where
  pub ran : WorldRuns meaning no_world events w
  pub faithful : IsFaithful w.history
  pub ordered : EachPlace IsWellOrdered w.history.trace
  pub synchronous : IsVirtuallySynchronous meaning w.history.trace
  pub agreeing : EachPlace (ReplicasAgree meaning) w.history.trace

-- the texts of a script's run: all of it; or, where memory was refused outside a member's step, whole lines of a beginning
-- and `# memory`
pub data IsRunText {S : Type 0} (meaning : Meaning S) (script : Script) : Status → List ℕ → Type 0 where
  All : (w : WorldModel S) → Ran meaning script.events w → IsRunText meaning script Done (text_of_run script.lines w.history.replies w.history.trace)
  Part : (w : WorldModel S) (events lines : ℕ) → Ran meaning (take events script.events) w
      → IsRunText meaning script Memory (concat (take lines (lines_of_run script.lines w.history.replies w.history.trace)) ++ memory_line)

-- the texts of what is printed of a script's run at its end, lines of its history: all of them; the first few and `# memory`; or `# memory`
-- alone, where the script was not run to its end for want of memory
pub data IsEndText {S : Type 0} (meaning : Meaning S) (lines_of : History → List (List ℕ)) (script : Script) : Status → List ℕ → Type 0 where
  All : (w : WorldModel S) → Ran meaning script.events w → IsEndText meaning lines_of script Done (concat (lines_of w.history))
  Part : (w : WorldModel S) (count : ℕ) → Ran meaning script.events w → IsEndText meaning lines_of script Memory (concat (take count (lines_of w.history)) ++ memory_line)
  Stopped : IsEndText meaning lines_of script Memory memory_line

-- a script is run from a reader to a writer
abbrev pub RunsScript : {S : Type 0} → Meaning S → Option (List ℕ) → Option (List ℕ) → Option (List ℕ) → Status → Type 0
RunsScript meaning left old new status = IsAnswer (IsScriptText as_written (IsRunText meaning)) left old new status
