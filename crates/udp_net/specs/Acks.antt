-- The latest ACK for a node.
use Rattle.std.specs.Prelude.{ℕ, Bool, false, ◌&&◌, List, length, Result, Ok, Err, nat_eq, nat_le}
use Rattle.wire_values.specs.Kinds.{kind_of}
use Rattle.wire_values.specs.declared.packet.Packet.{Packet}
use Rattle.wire_values.specs.declared.error.WireError.{WireError}
use Rattle.wire.specs.Packets.{packet_of}
use Rattle.udp_net.specs.declared.TheConstants.{ACK}

-- it is an ACK, whose kind has the number 7
abbrev pub is_ack_read : Result Packet WireError → Bool
is_ack_read (Ok p) = nat_eq (kind_of p.body) 7
is_ack_read (Err e) = false

-- a datagram spells an ACK
abbrev pub is_ack : List ℕ → Bool
is_ack datagram = nat_le (length datagram) ACK && is_ack_read (packet_of datagram)
