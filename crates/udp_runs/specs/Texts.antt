-- The lines that a command over datagrams writes: what happens, and what is refused.
use Rattle.std.specs.Prelude.{◌≡◌, ℕ, List, ◌++◌, map, filter_map, take, Option, None, Some, Result, Ok, Err}
use Rattle.std.specs.List.{concat}
use Rattle.trace_props.specs.declared.event.Event.{Event}
use Rattle.vsync_text.specs.TraceText.{line_of}
use Rattle.vsync_text.specs.Runs.{refusal_line}

-- something happened; or the event of a line of the script was refused with a number
pub data Line : Type 0 where
  Happens : Event → Line
  Refuses : ℕ → ℕ → Line

abbrev pub text_of_line : Line → List ℕ
text_of_line (Happens event) = line_of event
text_of_line (Refuses line number) = refusal_line line number

abbrev pub texts_of : List Line → List (List ℕ)
texts_of lines = map text_of_line lines

abbrev pub event_in : Line → Option Event
event_in (Happens event) = Some event
event_in (Refuses line number) = None

-- what happened
abbrev pub events_in : List Line → List Event
events_in lines = filter_map event_in lines

-- behind a text stand lines of which this holds; or, where memory was refused, the first of some of which that holds
abbrev pub Appended : {A E : Type 0} → (List Line → Type 0) → (List Line → Type 0) → List ℕ → List ℕ → Result A E → Type 0
Appended Says Begins old new (Ok done) = (lines : List Line) × Says lines × (new ≡ old ++ concat (texts_of lines))
Appended Says Begins old new (Err refused) = (lines : List Line) × Begins lines × ((count : ℕ) × (new ≡ old ++ concat (take count (texts_of lines))))
