-- What a script's run comes to in which the changes of view complete that can, and calm views deliver everything; and what is printed of it.
use Rattle.std.specs.Prelude.{◌≡◌, ℕ, ◌+◌, ◌-◌, zero, suc, Bool, List, ◌++◌, length, take, replicate, Option, MatchBool}
use Rattle.std.specs.List.{concat}
use Rattle.state_transfer.specs.Meanings.{Meaning}
use Rattle.trace_props.specs.Places.{EachPlace}
use Rattle.trace_props.specs.Synchrony.{IsWellOrdered, IsVirtuallySynchronous}
use Rattle.law_processes.specs.Replicas.{ReplicasAgree}
use Rattle.world_model.specs.Faithful.{IsFaithful}
use Rattle.world_model.specs.declared.WorldEvent.{WorldEvent}
use Rattle.world.specs.Worlds.{WorldModel, no_world, IsLonger, Runs as WorldRuns}
use Rattle.world.specs.Settled.{SettlesAt, DeliversAt}
use Rattle.vsync_text.specs.declared.script.Script.{Script}
use Rattle.vsync_text.specs.Script.{as_written}
use Rattle.vsync_text.specs.Runs.{lines_of_run, text_of_run}
use Rattle.address.specs.declared.limits.TheConstants.{GREATEST_NODE}
use Rattle.vsync_text.specs.declared.status.Status.{Status}
use Rattle.vsync_text.specs.declared.status.Status.TheVariants.{Done, Memory}
use Rattle.vsync_text.specs.Outcomes.{IsScriptText, IsAnswer, memory_line}

-- what holds of every world
pub record KeepsRules {S : Type 0} (meaning : Meaning S) (w : WorldModel S) : Type 0 where
  pub faithful : IsFaithful w.history
  pub ordered : EachPlace IsWellOrdered w.history.trace
  pub synchronous : IsVirtuallySynchronous meaning w.history.trace
  pub agreeing : EachPlace (ReplicasAgree meaning) w.history.trace

module _ {S : Type 0} where
  -- this is done at each node from 1 on, one after another
  pub data AtEachNode (Does : ℕ → WorldModel S → WorldModel S → Type 0) (from : WorldModel S) : ℕ → WorldModel S → Type 0 where
    Nowhere : AtEachNode Does from zero from
    More : (n : ℕ) (mid new : WorldModel S) → AtEachNode Does from n mid → Does (n + 1) mid new → AtEachNode Does from (suc n) new

module _ {S : Type 0} (meaning : Meaning S) where
  -- some events, then a settling at each node, and then, if it is asked for, a delivery of everything at each
  pub record RunsAndSettles (delivers : Bool) (old : WorldModel S) (events : List WorldEvent) (new : WorldModel S) : Type 0 where
    pub mid : WorldModel S
    pub settled : WorldModel S
    pub ran : WorldRuns meaning old events mid
    pub settles : AtEachNode (SettlesAt meaning) mid GREATEST_NODE settled
    pub delivery : MatchBool delivers (AtEachNode (DeliversAt meaning) settled GREATEST_NODE new) (new ≡ settled)

  -- the first few of that
  pub record RunsInPart (old : WorldModel S) (events : List WorldEvent) (new : WorldModel S) : Type 0 where
    pub mid : WorldModel S
    pub count : ℕ
    pub ran : WorldRuns meaning old (take count events) mid
    pub longer : IsLonger mid.history new.history

-- the line of each event: a settling's have none, and are never refused
abbrev pub padded : List ℕ → ℕ → List ℕ
padded lines n = lines ++ replicate (n - length lines) 0

-- the texts of that: all of it; or, where memory was refused outside a member's step, whole lines of a beginning and `# memory`
pub data IsSettledText {S : Type 0} (meaning : Meaning S) (delivers : Bool) (script : Script) : Status → List ℕ → Type 0 where
  All : (w : WorldModel S) → RunsAndSettles meaning delivers no_world script.events w → KeepsRules meaning w
      → IsSettledText meaning delivers script Done (text_of_run (padded script.lines (length w.history.events)) w.history.replies w.history.trace)
  Part : (w : WorldModel S) (lines : ℕ) → RunsInPart meaning no_world script.events w → KeepsRules meaning w
      → IsSettledText meaning delivers script Memory (concat (take lines (lines_of_run (padded script.lines (length w.history.events)) w.history.replies w.history.trace)) ++ memory_line)

-- a script is run from a reader, the changes of view complete that can, calm views deliver everything if that is asked for, and what happened is written to a writer
abbrev pub SettlesScript : {S : Type 0} → Meaning S → Bool → Option (List ℕ) → Option (List ℕ) → Option (List ℕ) → Status → Type 0
SettlesScript meaning delivers left old new status = IsAnswer (IsScriptText as_written (IsSettledText meaning delivers)) left old new status
