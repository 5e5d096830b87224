-- What is read of the text of a process: it tells what happened to a member, and has the line of the member's state.
use Rattle.std.specs.Prelude.{ℕ, Bool, false, ◌&&◌, ◌||◌, List, [], ◌∷◌, ◌++◌, Option, None, Some, Result, codes, is_some, flat_map, if◌then◌else◌}
use Rattle.std.specs.Str.{bytes_eq}
use Rattle.trace_props.specs.declared.event.Event.{Event}
use Rattle.vsync_text.specs.Lines.{lines_of, field_of, behind_field}
use Rattle.vsync_text.specs.AddressText.{address_of_text}
use Rattle.vsync_text.specs.Texts.{FaultAt}
use Rattle.vsync_text.specs.Traces.{trace_of}

-- the words with which the lines of states begin: of the chats, of the map, of the table of locks
abbrev pub is_state_word : List ℕ → Bool
is_state_word word = bytes_eq word (codes "chat") || (bytes_eq word (codes "map") || bytes_eq word (codes "locks"))

-- an address stands in front, and more behind it
abbrev pub names_member : Option (List ℕ) → Bool
names_member None = false
names_member (Some rest) = is_some (address_of_text (field_of rest)) && is_some (behind_field rest)

-- the line of a member's state: such a word, the member's address, and more
abbrev pub is_state_line : List ℕ → Bool
is_state_line line = is_state_word (field_of line) && names_member (behind_field line)

-- what is told of the trace: the lines of states are left empty, so each other line keeps its number
abbrev pub told_in_line : List ℕ → List ℕ
told_in_line line = (if is_state_line line then [] else line) ++ 10 ∷ []

abbrev pub told_of_trace : List ℕ → List ℕ
told_of_trace text = flat_map told_in_line (lines_of text)

-- what happened by the text of a process, or its first fault
abbrev pub member_trace_of : List ℕ → Result (List Event) FaultAt
member_trace_of text = trace_of (told_of_trace text)
