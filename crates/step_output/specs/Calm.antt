-- What happens by itself: no input asks for it alone.
use Rattle.std.specs.Prelude.{◌≡◌, ℕ, ◌≤◌, Bool, true, false, List, ◌++◌, length}
use Rattle.std.specs.List.{list_all}
use Rattle.trace_props.specs.declared.event.Event.{Event}
use Rattle.trace_props.specs.declared.event.Event.TheVariants.{Started, Sent, Delivered, Blocked, Installed, Left, Crashed}
use Rattle.step_output.specs.declared.output.Output.{Output}

-- an event that no input asks for by itself
abbrev pub is_quiet : Event → Bool
is_quiet (Started p) = false
is_quiet (Sent s) = false
is_quiet (Delivered d) = true
is_quiet (Blocked p) = true
is_quiet (Installed i) = true
is_quiet (Left p) = false
is_quiet (Crashed p) = false

-- at most so many events more, each of which no input asks for by itself
pub record IsCalm (most : ℕ) (old new : Output) : Type 0 where
  pub more : List Event
  pub grows : new.events.items ≡ old.events.items ++ more
  pub few : length more ≤ most
  pub quiet : list_all is_quiet more ≡ true
