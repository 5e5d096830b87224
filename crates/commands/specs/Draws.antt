-- What a command writes that draws a trace, or a script's run. Nothing is written where memory is refused: no half picture.
use Rattle.std.specs.Prelude.{◌≡◌, ℕ, Bool, List, [], Option, Ok, Err}
use Rattle.state_transfer.specs.Meanings.{Meaning}
use Rattle.trace_props.specs.declared.event.Event.{Event}
use Rattle.trace_props.specs.declared.verdict.Verdict.{Verdict}
use Rattle.trace_props.specs.declared.verdict.Verdict.TheVariants.{Holds}
use Rattle.trace_props.specs.Verdicts.{IsVerdict}
use Rattle.trace_drawing.specs.declared.aside.Aside.{Aside}
use Rattle.trace_drawing.specs.Picture.{picture_of}
use Rattle.vsync_text.specs.declared.script.Script.{Script}
use Rattle.vsync_text.specs.declared.fault.Fault.{Fault}
use Rattle.vsync_text.specs.Script.{script_of, fault_number}
use Rattle.vsync_text.specs.Traces.{trace_of}
use Rattle.world.specs.Worlds.{WorldModel}
use Rattle.vsync_text.specs.declared.status.Status.{Status}
use Rattle.vsync_text.specs.declared.status.Status.TheVariants.{Done, Refused, Memory}
use Rattle.commands.specs.Asides.{HasAsides}
use Rattle.vsync_text.specs.Outcomes.{IsAnswer, fault_line}
use Rattle.commands.specs.Outcomes.{Ran}

-- the texts of what happened: its picture, with what stands beside it, and with a mark where a rule breaks; or nothing, where memory is refused
pub data IsPictureText (t : List Event) (asides : List Aside) (packets : List (List ℕ)) (verdict : Verdict) : Status → List ℕ → Type 0 where
  Drawn : IsPictureText t asides packets verdict Done (picture_of t asides packets verdict)
  Undrawn : IsPictureText t asides packets verdict Memory []

-- the texts of an input's first fault: its line; or nothing, where memory is refused
pub data IsRefusalText (line number : ℕ) : Status → List ℕ → Type 0 where
  Said : IsRefusalText line number Refused (fault_line line number)
  Unsaid : IsRefusalText line number Memory []

-- the texts of an input that tells what happened, what stands beside it, the packets and the verdict on it, or has a first fault; or nothing, where memory is refused
pub data IsDrawingText (Tells : List Event → List Aside → List (List ℕ) → Verdict → Type 0) (Faults : ℕ → Fault → Type 0) : Status → List ℕ → Type 0 where
  Draws : (t : List Event) (asides : List Aside) (packets : List (List ℕ)) (verdict : Verdict) (status : Status) (text : List ℕ) → Tells t asides packets verdict → IsPictureText t asides packets verdict status text → IsDrawingText Tells Faults status text
  Faulty : (line : ℕ) (fault : Fault) (status : Status) (text : List ℕ) → Faults line fault → IsRefusalText line (fault_number fault) status text → IsDrawingText Tells Faults status text
  Unread : IsDrawingText Tells Faults Memory []

-- what happened in a world that came from nothing by a script's events, and what stands beside it, with packets or without: no rule breaks
pub record TellsRun {S : Type 0} (meaning : Meaning S) (with_packets : Bool) (script : Script) (t : List Event) (asides : List Aside) (packets : List (List ℕ)) (verdict : Verdict) : Type 0 where
  pub world : WorldModel S
  pub ran : Ran meaning script.events world
  pub is : world.history.trace ≡ t
  pub beside : HasAsides meaning with_packets script.lines script.events world asides
  pub pool : world.history.pool ≡ packets
  pub holds : verdict ≡ Holds

-- what happened in a run of the script that bytes spell
pub record TellsScript {S : Type 0} (meaning : Meaning S) (with_packets : Bool) (bytes : List ℕ) (t : List Event) (asides : List Aside) (packets : List (List ℕ)) (verdict : Verdict) : Type 0 where
  pub script : Script
  pub read : script_of bytes ≡ Ok script
  pub run : TellsRun meaning with_packets script t asides packets verdict

-- these events, with the verdict on them; nothing stands beside them
pub record IsJudgedAs {S : Type 0} (meaning : Meaning S) (events t : List Event) (asides : List Aside) (packets : List (List ℕ)) (verdict : Verdict) : Type 0 where
  pub is : events ≡ t
  pub none : asides ≡ []
  pub unpacked : packets ≡ []
  pub judged : IsVerdict meaning t verdict

-- what the trace says that bytes spell, with the verdict on it
pub record TellsTrace {S : Type 0} (meaning : Meaning S) (bytes : List ℕ) (t : List Event) (asides : List Aside) (packets : List (List ℕ)) (verdict : Verdict) : Type 0 where
  pub read : trace_of bytes ≡ Ok t
  pub none : asides ≡ []
  pub unpacked : packets ≡ []
  pub judged : IsVerdict meaning t verdict

-- the texts of a script's bytes: the picture of its run, or its first fault
abbrev pub IsDrawnScript : {S : Type 0} → Meaning S → Bool → List ℕ → Status → List ℕ → Type 0
IsDrawnScript meaning with_packets bytes = IsDrawingText (TellsScript meaning with_packets bytes) (λ line fault. script_of bytes ≡ Err (record { line = line; fault = fault }))

-- the texts of a trace's bytes: its picture, with a mark where it breaks a rule; or its first fault
abbrev pub IsDrawnTrace : {S : Type 0} → Meaning S → List ℕ → Status → List ℕ → Type 0
IsDrawnTrace meaning bytes = IsDrawingText (TellsTrace meaning bytes) (λ line fault. trace_of bytes ≡ Err (record { line = line; fault = fault }))

-- a script is run from a reader, and its picture is written to a writer
abbrev pub DrawsScript : {S : Type 0} → Meaning S → Bool → Option (List ℕ) → Option (List ℕ) → Option (List ℕ) → Status → Type 0
DrawsScript meaning with_packets left old new status = IsAnswer (IsDrawnScript meaning with_packets) left old new status

-- a trace is read from a reader, and its picture is written to a writer
abbrev pub DrawsTrace : {S : Type 0} → Meaning S → Option (List ℕ) → Option (List ℕ) → Option (List ℕ) → Status → Type 0
DrawsTrace meaning left old new status = IsAnswer (IsDrawnTrace meaning) left old new status
