-- What the check of a trace writes.
use Rattle.std.specs.Prelude.{◌≡◌, ℕ, List, [], ◌∷◌, ◌++◌, Option, Ok, Err, codes}
use Rattle.std.specs.Fmt.{decimal}
use Rattle.state_transfer.specs.Meanings.{Meaning}
use Rattle.trace_props.specs.declared.event.Event.{Event}
use Rattle.trace_props.specs.declared.verdict.Rule.{Rule}
use Rattle.trace_props.specs.declared.verdict.Rule.TheVariants.{WellPlaced, RisingViews, SoundMessages, OneOrder, SameNext, Together, HandedBack, StateOfEntry}
use Rattle.trace_props.specs.declared.verdict.Verdict.{Verdict}
use Rattle.trace_props.specs.declared.verdict.Verdict.TheVariants.{Holds, Breaks}
use Rattle.trace_props.specs.Verdicts.{IsVerdict}
use Rattle.vsync_text.specs.declared.fault.Fault.{Fault}
use Rattle.vsync_text.specs.Script.{fault_number}
use Rattle.vsync_text.specs.Traces.{trace_of}
use Rattle.vsync_text.specs.declared.status.Status.{Status}
use Rattle.vsync_text.specs.declared.status.Status.TheVariants.{Done, Broken, Memory}
use Rattle.vsync_text.specs.Outcomes.{IsFaultText, IsAnswer, memory_line}

-- the code of a rule
abbrev pub rule_code : Rule → List ℕ
rule_code WellPlaced = codes "D5"
rule_code RisingViews = codes "D6"
rule_code SoundMessages = codes "D7"
rule_code OneOrder = codes "D8"
rule_code SameNext = codes "D9"
rule_code Together = codes "D10"
rule_code HandedBack = codes "D11"
rule_code StateOfEntry = codes "D12"

-- the line for a broken rule
abbrev pub broken_line : Rule → ℕ → List ℕ
broken_line rule place = codes "broken " ++ (rule_code rule ++ 32 ∷ (decimal place ++ 10 ∷ []))

-- the texts of a verdict: its line; or `# memory`, where memory is refused
pub data IsVerdictText : Verdict → Status → List ℕ → Type 0 where
  Held : IsVerdictText Holds Done (codes "holds\n")
  Broke : (rule : Rule) (place : ℕ) → IsVerdictText (Breaks rule place) Broken (broken_line rule place)
  Unprinted : (v : Verdict) → IsVerdictText v Memory memory_line

-- the texts of what happened: of the verdict on it; or `# memory`, where memory is refused
pub data IsJudgedText {S : Type 0} (meaning : Meaning S) (t : List Event) : Status → List ℕ → Type 0 where
  Judged : (v : Verdict) (status : Status) (text : List ℕ) → IsVerdict meaning t v → IsVerdictText v status text → IsJudgedText meaning t status text
  Unjudged : IsJudgedText meaning t Memory memory_line

-- the texts of a trace's bytes: of what they say happened; of their first fault; or `# memory`, where memory is refused
pub data IsCheckText {S : Type 0} (meaning : Meaning S) (bytes : List ℕ) : Status → List ℕ → Type 0 where
  Checks : (t : List Event) (status : Status) (text : List ℕ) → trace_of bytes ≡ Ok t → IsJudgedText meaning t status text → IsCheckText meaning bytes status text
  Faulty : (line : ℕ) (fault : Fault) (status : Status) (text : List ℕ) → trace_of bytes ≡ Err (record { line = line; fault = fault })
      → IsFaultText line (fault_number fault) status text → IsCheckText meaning bytes status text
  Unread : IsCheckText meaning bytes Memory memory_line

-- a trace is checked from a reader to a writer
abbrev pub ChecksTrace : {S : Type 0} → Meaning S → Option (List ℕ) → Option (List ℕ) → Option (List ℕ) → Status → Type 0
ChecksTrace meaning left old new status = IsAnswer (IsCheckText meaning) left old new status
