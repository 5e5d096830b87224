-- What is printed of a world that ran a script's events.
use Rattle.std.proofs.Common.{◌≡◌, ℕ, List, take, Bool, true, false, Result, Ok, Err, OnOk, is_ok, Option, sym, ap, ◌∙◌, subst}
use Rattle.state_transfer.specs.Meanings.{Meaning}
use Rattle.trace_props.specs.Places.{EachPlace}
use Rattle.trace_props.specs.Synchrony.{IsWellOrdered, IsVirtuallySynchronous}
use Rattle.law_processes.specs.Replicas.{ReplicasAgree}
use Rattle.trace_props.specs.declared.event.Event.{Event}
use Rattle.world_model.specs.declared.WorldEvent.{WorldEvent}
use Rattle.world_model.specs.declared.Reply.{Reply}
use Rattle.world.specs.Worlds.{WorldModel, no_world, Runs as WorldRuns}
use Rattle.world_model.specs.Faithful.{IsFaithful}
use Rattle.world_model.specs.Histories.{History}
use Rattle.vsync_text.specs.declared.script.Script.{Script}
use Rattle.vsync_text.specs.Runs.{lines_of_run}
use Rattle.vsync_text.specs.declared.status.Status.{Status}
use Rattle.vsync_text.specs.declared.status.Status.TheVariants.{Memory}
use Rattle.vsync_text.specs.Outcomes.{Ends, IsLinesText, Written, memory_line}
use Rattle.commands.specs.Outcomes.{Ran, IsRunText, IsEndText}
use Rattle.vsync_text.specs.Outcomes.IsLinesText.{Printed, Unprinted}
use Rattle.commands.specs.Outcomes.IsRunText.{All, Part}
use Rattle.commands.specs.Outcomes.IsEndText.{All as AllLines, Part as PartOfLines, Stopped}
use Rattle.vsync_text.proofs.TextsFollow.{written-as}

-- an answer that is no error
on-ok : {A E : Type 0} (r : Result A E) (P : Type 0) (b : Bool) → OnOk r P → b ≡ is_ok r → b ≡ true → P
on-ok (Ok x) P b p is whole = p
on-ok (Err x) P b p is whole = absurd (let bad : true ≡ false = sym whole ∙ is in cc)

module _ {S : Type 0} (meaning : Meaning S) where
  abbrev RunsFrom : WorldModel S → List WorldEvent → WorldModel S → Type 0
  RunsFrom old events new = WorldRuns meaning old events new

  -- what every world keeps that ran some events
  pub record OwnedReport (w : WorldModel S) : Type 0 where
    pub faithful : IsFaithful w.history
    pub ordered : EachPlace IsWellOrdered w.history.trace
    pub synchronous : IsVirtuallySynchronous meaning w.history.trace
    pub agreeing : EachPlace (ReplicasAgree meaning) w.history.trace

  -- it ran these events from the beginning
  abbrev ran-these : (events : List WorldEvent) (w : WorldModel S) → OwnedReport w → RunsFrom no_world events w → Ran meaning events w
  ran-these events w k ran = record { ran = ran; faithful = k.faithful; ordered = k.ordered; synchronous = k.synchronous; agreeing = k.agreeing }

  -- what was run in a new world was run from nothing
  from-nothing : (given events : List WorldEvent) (old w : WorldModel S) → given ≡ events → old ≡ no_world → RunsFrom old given w → RunsFrom no_world events w
  from-nothing given events old w all empty ran =
      subst (λ (o : WorldModel S). RunsFrom o events w) empty (subst (λ (g : List WorldEvent). RunsFrom old g w) all ran)

  -- ---- a script's run

  -- what is printed of a world that ran a script's events, all of them or a beginning, is a text of the script's run
  run-text : (script : Script) (w : WorldModel S) (ran : Bool) (k : ℕ) → OwnedReport w → RunsFrom no_world (take k script.events) w → (ran ≡ true → RunsFrom no_world script.events w)
      → (s : Status) (t : List ℕ) → IsLinesText (lines_of_run script.lines w.history.replies w.history.trace) ran s t → IsRunText meaning script s t
  run-text script w ran k kept some all s t (Printed whole) = All w (ran-these script.events w kept (all whole))
  run-text script w ran k kept some all s t (Unprinted count) = Part w k count (ran-these (take k script.events) w kept some)

  -- what is printed of a world that ran a script's events from the beginning
  pub played : {A E : Type 0} (script : Script) (lines : List ℕ) (given : List WorldEvent) (old w : WorldModel S) (ran : Bool) (r : Result A E) (k : ℕ) (a b : Option (List ℕ)) (status : Status)
      → lines ≡ script.lines → given ≡ script.events → old ≡ no_world → OwnedReport w → RunsFrom old (take k given) w → OnOk r (RunsFrom old given w) → ran ≡ is_ok r
      → Written (IsLinesText (lines_of_run lines w.history.replies w.history.trace) ran) a b status → Written (IsRunText meaning script) a b status
  played script lines given old w ran r k a b status same all empty kept some whole is written =
      written-as (IsLinesText (lines_of_run script.lines w.history.replies w.history.trace) ran) (IsRunText meaning script) a b status
      (run-text script w ran k kept (from-nothing (take k given) (take k script.events) old w (ap (take k) all) empty some)
      (λ to-end. from-nothing given script.events old w all empty (on-ok r (RunsFrom old given w) ran whole is to-end)))
      (subst (λ (l : List ℕ). Written (IsLinesText (lines_of_run l w.history.replies w.history.trace) ran) a b status) same written)

  -- ---- what is printed at its end

  module _ (lines_of : History → List (List ℕ)) (script : Script) where
    end-text : (w : WorldModel S) → Ran meaning script.events w → (s : Status) (t : List ℕ)
        → IsLinesText (lines_of w.history) true s t → IsEndText meaning lines_of script s t
    end-text w ran s t (Printed whole) = AllLines w ran
    end-text w ran s t (Unprinted count) = PartOfLines w count ran

    -- the lines of a world that ran all of a script's events
    pub ran-to-end : (given : List WorldEvent) (old w : WorldModel S) (a b : Option (List ℕ)) (status : Status) → given ≡ script.events → old ≡ no_world → OwnedReport w → RunsFrom old given w
        → Written (IsLinesText (lines_of w.history) true) a b status → Written (IsEndText meaning lines_of script) a b status
    ran-to-end given old w a b status all empty kept whole written =
        written-as (IsLinesText (lines_of w.history) true) (IsEndText meaning lines_of script) a b status
        (end-text w (ran-these script.events w kept (from-nothing given script.events old w all empty whole))) written

    -- the world could not run them all
    pub stopped : (a b : Option (List ℕ)) (status : Status) → Ends a b memory_line Memory status → Written (IsEndText meaning lines_of script) a b status
    stopped a b status e = record { meant = Memory; text = memory_line; says = Stopped; ends = e }

-- the lines of a run by its replies and its trace
pub printed-as : (lines : List ℕ) (ran : Bool) (replies replies' : List Reply) (trace trace' : List Event) (a b : Option (List ℕ)) (status : Status) → replies ≡ replies' → trace ≡ trace'
    → Written (IsLinesText (lines_of_run lines replies trace) ran) a b status → Written (IsLinesText (lines_of_run lines replies' trace') ran) a b status
printed-as lines ran replies replies' trace trace' a b status r t w =
    subst (λ (x : List Event). Written (IsLinesText (lines_of_run lines replies' x) ran) a b status) t
    (subst (λ (y : List Reply). Written (IsLinesText (lines_of_run lines y trace) ran) a b status) r w)
