-- What the check of the texts of several processes writes.
use Rattle.std.specs.Prelude.{◌≡◌, ⊤, ℕ, zero, suc, ◌+◌, List, [], ◌∷◌, ◌++◌, Option, None, Some, Ok, Err, codes, map, take, slice_get}
use Rattle.std.specs.Fmt.{decimal}
use Rattle.std.specs.Global.{Vec}
use Rattle.state_transfer.specs.Meanings.{Meaning}
use Rattle.trace_props.specs.declared.event.Event.{Event}
use Rattle.trace_props.specs.declared.verdict.Rule.{Rule}
use Rattle.trace_props.specs.declared.verdict.Verdict.{Verdict}
use Rattle.trace_props.specs.declared.verdict.Verdict.TheVariants.{Holds, Breaks}
use Rattle.trace_props.specs.Verdicts.{IsVerdict}
use Rattle.trace_merge.specs.Merges.{IsOrderedMerge}
use Rattle.trace_merge.specs.Outcomes.{AreUnordered}
use Rattle.vsync_text.specs.declared.fault.Fault.{Fault}
use Rattle.vsync_text.specs.declared.fault.Unread.{Unread}
use Rattle.vsync_text.specs.declared.fault.Unread.TheVariants as one
use Rattle.vsync_text.specs.Script.{fault_number}
use Rattle.vsync_text.specs.TraceText.{line_of}
use Rattle.commands.specs.declared.processes.UnreadIn.{UnreadIn}
use Rattle.commands.specs.declared.processes.UnreadIn.TheVariants as unread
use Rattle.vsync_text.specs.declared.status.Status.{Status}
use Rattle.vsync_text.specs.declared.status.Status.TheVariants.{Done, Broken, Refused, Memory}
use Rattle.vsync_text.specs.Outcomes.{Written, memory_line}
use Rattle.commands.specs.Checks.{broken_line}
use Rattle.commands.specs.MemberTexts.{member_trace_of}

-- the bytes of texts, and the trace that one tells
abbrev pub bytes_in : Vec ℕ → List ℕ
bytes_in v = v.items

abbrev pub texts_of : List (Vec ℕ) → List (List ℕ)
texts_of texts = map bytes_in texts

abbrev pub IsTraceOf : List ℕ → List Event → Type 0
IsTraceOf bytes t = member_trace_of bytes ≡ Ok t

-- texts one by one
abbrev pub AreTracesOf : List (List ℕ) → List (List Event) → Type 0
AreTracesOf [] [] = ⊤
AreTracesOf [] (t ∷ traces) = ⊥
AreTracesOf (bytes ∷ texts) [] = ⊥
AreTracesOf (bytes ∷ texts) (t ∷ traces) = IsTraceOf bytes t × AreTracesOf texts traces

-- the event at a place, from 1, and its line; none at a place outside
abbrev pub event_at : List Event → ℕ → Option Event
event_at t zero = None
event_at t (suc n) = slice_get t n

abbrev pub line_with : Option Event → List ℕ
line_with None = []
line_with (Some e) = line_of e

-- the texts of a verdict: `holds`; the line for a broken rule, and behind it the line of the event at its place; or `# memory`
pub data IsPlacedText (t : List Event) : Verdict → Status → List ℕ → Type 0 where
  Held : IsPlacedText t Holds Done (codes "holds\n")
  Broke : (rule : Rule) (place : ℕ) → IsPlacedText t (Breaks rule place) Broken (broken_line rule place ++ line_with (event_at t place))
  Unprinted : (v : Verdict) → IsPlacedText t v Memory memory_line

-- the line for events that have no order: the number of a text, and of its event, from 1, that waits for one that can only come behind it
abbrev pub unordered_line : ℕ → ℕ → List ℕ
unordered_line text event = codes "unordered " ++ (decimal text ++ 32 ∷ (decimal event ++ 10 ∷ []))

-- the line for the first fault of the first text that has one
abbrev pub faulty_line : ℕ → ℕ → ℕ → List ℕ
faulty_line text line number = codes "fault " ++ (decimal text ++ 32 ∷ (decimal line ++ 32 ∷ (decimal number ++ 10 ∷ [])))

-- the texts of both: the line; or `# memory`
pub data IsUnorderedText (process event : ℕ) : Status → List ℕ → Type 0 where
  Told : IsUnorderedText process event Broken (unordered_line process event)
  Untold : IsUnorderedText process event Memory memory_line

pub data IsFaultyText (text line number : ℕ) : Status → List ℕ → Type 0 where
  Told : IsFaultyText text line number Refused (faulty_line text line number)
  Untold : IsFaultyText text line number Memory memory_line

-- the texts of what the processes say that happened: of the verdict on it in an order; that it has none; or `# memory`
pub data IsJoinedText {S : Type 0} (meaning : Meaning S) (processes : List (List Event)) : Status → List ℕ → Type 0 where
  Judged : (t : List Event) (v : Verdict) (status : Status) (text : List ℕ) → IsOrderedMerge processes t → IsVerdict meaning t v → IsPlacedText t v status text
      → IsJoinedText meaning processes status text
  Unordered : (process event : ℕ) (status : Status) (text : List ℕ) → AreUnordered processes process event → IsUnorderedText process event status text
      → IsJoinedText meaning processes status text
  Unjudged : IsJoinedText meaning processes Memory memory_line

-- the text of this number, from 1, has this first fault, and those before it have none
pub record HasFault (texts : List (List ℕ)) (number line : ℕ) (fault : Fault) : Type 0 where
  pub before : List (List Event)
  pub k : ℕ
  pub bytes : List ℕ
  pub number_is : number ≡ k + 1
  pub reads : AreTracesOf (take k texts) before
  pub there : slice_get texts k ≡ Some bytes
  pub faulty : member_trace_of bytes ≡ Err (record { line = line; fault = fault })

-- why the text of a number is not read, and why texts are not
abbrev pub unread_at : ℕ → Unread → UnreadIn
unread_at text (one.Fault line fault) = unread.Fault text line fault
unread_at text one.Memory = unread.Memory

abbrev pub IsUnreadIn : List (List ℕ) → UnreadIn → Type 0
IsUnreadIn texts (unread.Fault number line fault) = HasFault texts number line fault
IsUnreadIn texts unread.Memory = ⊤

-- the texts of the bytes of several texts: of what they say happened; of the first fault of the first that has one; or `# memory`
pub data IsProcessesText {S : Type 0} (meaning : Meaning S) (texts : List (List ℕ)) : Status → List ℕ → Type 0 where
  Reads : (processes : List (List Event)) (status : Status) (text : List ℕ) → AreTracesOf texts processes → IsJoinedText meaning processes status text
      → IsProcessesText meaning texts status text
  Faulty : (number line : ℕ) (fault : Fault) (status : Status) (text : List ℕ) → HasFault texts number line fault → IsFaultyText number line (fault_number fault) status text
      → IsProcessesText meaning texts status text
  Lacking : IsProcessesText meaning texts Memory memory_line

-- the texts of several processes are checked, to a writer
abbrev pub ChecksProcesses : {S : Type 0} → Meaning S → List (List ℕ) → Option (List ℕ) → Option (List ℕ) → Status → Type 0
ChecksProcesses meaning texts old new status = Written (IsProcessesText meaning texts) old new status
