-- How the check of a trace ends.
use Rattle.std.proofs.Common.{ℕ, List, [], Option, Ok, Err, unwrap_or}
use Rattle.state_transfer.specs.Meanings.{Meaning}
use Rattle.trace_props.specs.declared.event.Event.{Event}
use Rattle.trace_props.specs.declared.verdict.Verdict.{Verdict}
use Rattle.trace_props.specs.Verdicts.{IsVerdict}
use Rattle.vsync_text.specs.declared.fault.Fault.{Fault}
use Rattle.vsync_text.specs.Script.{fault_number}
use Rattle.vsync_text.specs.Pieces.{Told}
use Rattle.vsync_text.specs.declared.status.Status.{Status}
use Rattle.vsync_text.specs.declared.status.Status.TheVariants.{Memory}
use Rattle.vsync_text.specs.Outcomes.{Ends, Written, IsFaultText, memory_line}
use Rattle.vsync_text.specs.Outcomes.IsAnswer.{Answers}
use Rattle.commands.specs.Checks.{IsVerdictText, IsJudgedText, IsCheckText, ChecksTrace}
use Rattle.commands.specs.Checks.IsJudgedText.{Judged, Unjudged}
use Rattle.commands.specs.Checks.IsCheckText.{Checks, Faulty, Unread}
use Rattle.vsync_text.proofs.TextsFollow.{written-as, left-of}

-- a verdict was printed
pub judged-text : {S : Type 0} (meaning : Meaning S) (t : List Event) (v : Verdict) (a b : Option (List ℕ)) (status : Status)
    → IsVerdict meaning t v → Written (IsVerdictText v) a b status → Written (IsJudgedText meaning t) a b status
judged-text meaning t v a b status is w = written-as (IsVerdictText v) (IsJudgedText meaning t) a b status (λ s x says. Judged v s x is says) w

-- memory was refused before there was a verdict
pub unjudged-text : {S : Type 0} (meaning : Meaning S) (t : List Event) (a b : Option (List ℕ)) (status : Status)
    → Ends a b memory_line Memory status → Written (IsJudgedText meaning t) a b status
unjudged-text meaning t a b status e = record { meant = Memory; text = memory_line; says = Unjudged; ends = e }

-- the trace was read and judged
pub checked-text : {S : Type 0} (meaning : Meaning S) (left a b : Option (List ℕ)) (t : List Event) (status : Status)
    → Told left (Ok t) → Written (IsJudgedText meaning t) a b status → ChecksTrace meaning left a b status
checked-text meaning left a b t status told w =
    Answers told.bytes status told.whole (written-as (IsJudgedText meaning t) (IsCheckText meaning told.bytes) a b status (λ s x says. Checks t s x told.says says) w)

-- it was read and has a fault
pub faulty-text : {S : Type 0} (meaning : Meaning S) (left a b : Option (List ℕ)) (line : ℕ) (fault : Fault) (status : Status)
    → Told left (Err (record { line = line; fault = fault })) → Written (IsFaultText line (fault_number fault)) a b status → ChecksTrace meaning left a b status
faulty-text meaning left a b line fault status told w =
    Answers told.bytes status told.whole
    (written-as (IsFaultText line (fault_number fault)) (IsCheckText meaning told.bytes) a b status (λ s x says. Faulty line fault s x told.says says) w)

-- memory was refused before it was read
pub unread-trace : {S : Type 0} (meaning : Meaning S) (left a b : Option (List ℕ)) (status : Status)
    → Ends a b memory_line Memory status → ChecksTrace meaning left a b status
unread-trace meaning left a b status e = Answers (unwrap_or left []) status (left-of left) (record { meant = Memory; text = memory_line; says = Unread; ends = e })
