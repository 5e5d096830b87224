-- What the text of a trace says: the events that its lines stand for, or its first fault.
use Rattle.std.specs.Prelude.{ℕ, List, Option, None, Some, Result, Ok, Err, [], ◌∷◌, ◌++◌, length, codes, nat_lt, if◌then◌else◌}
use Rattle.std.specs.Str.{bytes_eq}
use Rattle.std.specs.List.{filter_map}
use Rattle.trace_props.specs.declared.event.Event.{Event}
use Rattle.trace_props.specs.declared.event.Event.TheVariants as event
use Rattle.vsync_text.specs.declared.fault.Fault.{Fault}
use Rattle.vsync_text.specs.declared.fault.Fault.TheVariants.{UnknownWord, LineTooLong}
use Rattle.vsync_text.specs.Lines.{field_of, behind_field}
use Rattle.vsync_text.specs.Fields.{made, spelled_at, last}
use Rattle.vsync_text.specs.Texts.{FaultAt, said_by}
use Rattle.vsync_text.specs.AddressText.{address_of_text}
use Rattle.vsync_text.specs.declared.read_line.Word.{Word}
use Rattle.vsync_text.specs.declared.read_line.Word.TheVariants.{Started, Sent, Delivered, Blocked, Installed, Left, Crashed}
use Rattle.address.specs.declared.limits.TheConstants.{TRACE_LINE}
use Rattle.vsync_text.specs.LineFields.{sending_at, delivery_at, install_at, stable_at}

abbrev pub word_of : List ℕ → Option Word
word_of name =
    if bytes_eq name (codes "started") then Some Started
    else if bytes_eq name (codes "sent") then Some Sent
    else if bytes_eq name (codes "delivered") then Some Delivered
    else if bytes_eq name (codes "blocked") then Some Blocked
    else if bytes_eq name (codes "installed") then Some Installed
    else if bytes_eq name (codes "left") then Some Left
    else if bytes_eq name (codes "crashed") then Some Crashed
    else None

-- the event of a word and of what is left behind it
unfoldable pub event_of : Word → Option (List ℕ) → Result Event Fault
event_of Started rest = made event.Started (last (spelled_at address_of_text rest))
event_of Sent rest = made event.Sent (last (sending_at rest))
event_of Delivered rest = made event.Delivered (last (delivery_at rest))
event_of Blocked rest = made event.Blocked (last (spelled_at address_of_text rest))
event_of Installed rest = made event.Installed (last (install_at rest))
event_of Left rest = made event.Left (last (spelled_at address_of_text rest))
event_of Crashed rest = made event.Crashed (last (spelled_at address_of_text rest))

abbrev pub spoken : Option Word → Option (List ℕ) → Result Event Fault
spoken None rest = Err UnknownWord
spoken (Some word) rest = event_of word rest

-- nothing is kept of a line that says which messages are stable
abbrev pub no_event : ℕ → Option Event
no_event count = None

-- a line that is not skipped says an event, or which messages are stable; its length is tested first
unfoldable pub said_in_line : List ℕ → Result (Option Event) Fault
said_in_line line =
    if nat_lt TRACE_LINE (length line) then Err LineTooLong
    else if bytes_eq (field_of line) (codes "stable") then made no_event (last (stable_at (behind_field line)))
    else made Some (spoken (word_of (field_of line)) (behind_field line))

-- of a line what it says is kept, without its number
abbrev pub said_alone : ℕ → Option Event → Option Event
said_alone k said = said

-- the events of what lines say
abbrev pub events_of : Result (List (Option Event)) FaultAt → Result (List Event) FaultAt
events_of (Ok said) = Ok (filter_map (λ e. e) said)
events_of (Err fault) = Err fault

-- what the text of a trace says: the first line that is a fault decides, and else its events are those of its lines
abbrev pub trace_of : List ℕ → Result (List Event) FaultAt
trace_of text = events_of (said_by said_in_line said_alone text)

-- what was read, with what one line more says behind it
abbrev pub with_said : List Event → ℕ → Option Event → List Event
with_said t k None = t
with_said t k (Some e) = t ++ e ∷ []
