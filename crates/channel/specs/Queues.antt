-- Queues, and what is said of an event.
use Rattle.std.specs.Prelude.{◌≡◌, ℕ, ◌∷◌, [], List, Option, None, Some, slice_get}
use Rattle.std.specs.Option.{option_and_then}
use Rattle.trace_props.specs.declared.event.Event.{Event}
use Rattle.trace_props.specs.declared.event.Event.TheVariants.{Started, Sent, Delivered, Blocked, Installed, Left, Crashed}
use Rattle.trace_props.specs.declared.event.Numbered.{Numbered}

-- the first is taken and the rest stays; nothing, where none stands there
abbrev pub TakesFirst : {X : Type 0} → Option X → List X → List X → Type 0
TakesFirst None old new = (old ≡ []) × (new ≡ [])
TakesFirst (Some x) old new = old ≡ x ∷ new

-- the message of an event, if it is one that was sent
abbrev pub message_sent : Event → Option Numbered
message_sent (Started p) = None
message_sent (Sent s) = Some s.message
message_sent (Delivered d) = None
message_sent (Blocked p) = None
message_sent (Installed i) = None
message_sent (Left p) = None
message_sent (Crashed p) = None

-- the message that was sent by the event at a place
abbrev pub sent_at : ℕ → List Event → Option Numbered
sent_at k events = option_and_then message_sent (slice_get events k)
