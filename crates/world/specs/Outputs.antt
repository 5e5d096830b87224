-- What a world may take of what a member puts out.
use Rattle.std.specs.Prelude.{◌≡◌, ◌≤◌, Some, List, length}
use Rattle.std.specs.List.{AllByRecursion}
use Rattle.trace_props.specs.Recorded.{IsRecordable}
use Rattle.step_output.specs.declared.output.Outgoing.{Outgoing}
use Rattle.step_output.specs.declared.output.Output.{Output}
use Rattle.world_model.specs.Packets.{destination_of}
use Rattle.address.specs.declared.limits.TheConstants.{STEP_EVENTS}

-- each packet says itself to whom it goes
abbrev pub AreAddressed : List Outgoing → Type 0
AreAddressed packets = AllByRecursion (λ o. destination_of o.bytes ≡ Some o.destination) packets

-- there is room for what happened, a trace takes it, and the packets are addressed
pub record Fits (out : Output) : Type 0 where
  pub few : length out.events.items ≤ STEP_EVENTS
  pub short : IsRecordable out.events.items
  pub addressed : AreAddressed out.packets.items
