use Rattle.std.proofs.Common.{◌≡◌, ◌++◌, take}
use Rattle.std.specs.List.{concat}
use Rattle.vsync_text.specs.PacketText.{packet_lines}
use Rattle.vsync_text.proofs.packet_lines.append_packets.Given as goal

-- so many packets have their lines
abbrev pub invariant-loop-packet : goal.invariant-loop-packet
invariant-loop-packet l =
    (l.number ≡ l.packet-index) × (l.out.items ≡ l.initial.out.items ++ concat (take l.packet-index (packet_lines l.packets)))
