-- A trace as contracts see it, and what every trace keeps.
use Rattle.std.specs.Prelude.{◌≡◌, ℕ, ◌≤◌, List, length, slice_get, Some}
use Rattle.address.specs.declared.limits.TheConstants.{PAYLOAD}
use Rattle.trace_props.specs.declared.event.Event.{Event}
use Rattle.trace_props.specs.declared.event.Event.TheVariants.{Started, Sent, Delivered, Blocked, Installed, Left, Crashed}
use Rattle.trace_props.specs.declared.event.Numbered.{Numbered}

-- what happened, and the room that is reserved for more
pub record Recorded : Type 0 where
  pub events : List Event
  pub room : ℕ

-- each payload that an event carries has at most `PAYLOAD` bytes
abbrev pub IsShort : Event → Type 0
IsShort (Started p) = Unit {0}
IsShort (Sent s) = length s.message.payload ≤ PAYLOAD
IsShort (Delivered d) = length d.message.payload ≤ PAYLOAD
IsShort (Blocked p) = Unit {0}
IsShort (Installed i) = (k : ℕ) (m : Numbered) → slice_get i.handed_back k ≡ Some m → length m.payload ≤ PAYLOAD
IsShort (Left p) = Unit {0}
IsShort (Crashed p) = Unit {0}

abbrev pub IsRecordable : List Event → Type 0
IsRecordable t = (k : ℕ) (h : Event) → slice_get t k ≡ Some h → IsShort h
