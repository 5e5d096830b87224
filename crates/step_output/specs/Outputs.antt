-- What a step puts out, and what happens by it.
use Rattle.std.specs.Prelude.{◌≡◌, ℕ, Bool, ◌&&◌, not, List, ◌++◌, map}
use Rattle.std.specs.List.{AllByRecursion}
use Rattle.address.specs.Ids.{Address, same_address}
use Rattle.wire_values.specs.declared.packet.Packet.{Packet}
use Rattle.wire_values.specs.Posted.{Posted}
use Rattle.wire.specs.Packets.{IsPacket, spelling}
use Rattle.trace_props.specs.declared.event.Event.{Event}
use Rattle.trace_props.specs.Recorded.{IsShort}
use Rattle.step_output.specs.declared.output.Outgoing.{Outgoing}
use Rattle.step_output.specs.declared.output.Output.{Output}
use Rattle.step_output.specs.Names.{same_name}

-- these packets and these events, and no others
pub record Puts (posted : List Outgoing) (happened : List Event) (out : Output) : Type 0 where
  pub packets : out.packets.items ≡ posted
  pub events : out.events.items ≡ happened

-- a packet of a group
abbrev pub packet_in : List ℕ → Posted → Packet
packet_in group m = record { group = group; source = m.source; destination = m.destination; body = m.body }

-- the same as bytes
abbrev pub spelled : List ℕ → Posted → Outgoing
spelled group m = record { destination = m.destination; bytes = spelling (packet_in group m) }

-- these packets more, each of which is read back, and these events more, each of which a trace takes
pub record Grows (group : List ℕ) (old new : Output) (posted : List Posted) (happened : List Event) : Type 0 where
  pub packets : new.packets.items ≡ old.packets.items ++ map (spelled group) posted
  pub sound : AllByRecursion (λ m. IsPacket (packet_in group m)) posted
  pub events : new.events.items ≡ old.events.items ++ happened
  pub short : AllByRecursion IsShort happened

-- a packet of its group, to its address, from another
abbrev pub is_for : Address → List ℕ → Packet → Bool
is_for p group m = same_name m.group group && same_address m.destination p && not (same_address m.source p)
