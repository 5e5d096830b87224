-- The packets of a world: the pool of all that was put out, and to whom one of them goes.
use Rattle.std.specs.Prelude.{ℕ, ◌-◌, List, Option, None, Some, Result, Ok, Err, codes, nat_eq, slice_get, if◌then◌else◌}
use Rattle.std.specs.Option.{option_and_then}
use Rattle.address.specs.Ids.{Address}
use Rattle.wire_values.specs.declared.error.WireError.{WireError}
use Rattle.wire_values.specs.declared.packet.Packet.{Packet}
use Rattle.wire.specs.Packets.{packet_of}
use Rattle.world_model.specs.Histories.{History, running}

-- the name of the world's group
abbrev pub world_group : List ℕ
world_group = codes "world"

-- the packet of a number, from 1
abbrev pub packet_numbered : ℕ → List (List ℕ) → Option (List ℕ)
packet_numbered k pool = if nat_eq k 0 then None else slice_get pool (k - 1)

abbrev pub destination_in : Result Packet WireError → Option Address
destination_in (Ok packet) = Some packet.destination
destination_in (Err e) = None

-- to whom the packet that some bytes spell goes, if they spell one
abbrev pub destination_of : List ℕ → Option Address
destination_of bytes = destination_in (packet_of bytes)

-- who is handed the packet of a number: the running member of its destination's node
abbrev pub recipient : ℕ → History → Option Address
recipient k h = option_and_then (λ bytes. option_and_then (λ (p : Address). running p.node h.trace) (destination_of bytes)) (packet_numbered k h.pool)
