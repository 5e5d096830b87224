use Rattle.std.proofs.Common.{◌≡◌, ◌+◌, ◌++◌, ◌∙◌, ap, length, arith}
use Rattle.vsync_text.specs.PacketText.{packet_line}
use Rattle.vsync_text.proofs.PacketLinesFollow.{printed-next, printed-all}
use Rattle.vsync_text.proofs.packet_lines.append_packets.Goals as goal

pub loop-packet-preserved : goal.loop-packet-preserved
loop-packet-preserved c =
    let counted : c.loop-packet.number + 1 ≡ c.loop-packet.packet-index + 1 = omega (arith, c.loop-packet.invariant.0) in (
      counted,
      printed-next c.args.packets.now c.loop-packet.packet-index (c.loop-packet.number + 1) _ _ _ _ _ c.packet-item.is c.loop-packet-test.true counted c.loop-packet.invariant.1
          (c.in_ok-append_packet.ensures.text ∙ ap (λ x. c.loop-packet.out.items ++ packet_line (c.loop-packet.number + 1) x) c.as_slice.ensures),
    )

pub returns-clause-ok : goal.returns-clause-ok
returns-clause-ok c =
    let whole : c.loop-packet.packet-index ≡ length c.args.packets.now = omega (arith, c.loop-packet.auto.packet-index-end, c.loop-packet-test.false) in
    printed-all c.args.packets.now c.loop-packet.packet-index _ _ whole c.loop-packet.invariant.1
