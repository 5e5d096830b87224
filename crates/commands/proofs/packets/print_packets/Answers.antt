use Rattle.std.proofs.Common.{List, ℕ, true, subst}
use Rattle.vsync_text.specs.PacketText.{packet_lines}
use Rattle.vsync_text.specs.Outcomes.{Written, IsLinesText}
use Rattle.vsync_text.proofs.TextsFollow.{appended-all, appended-some}
use Rattle.commands.proofs.packets.print_packets.Goals as goal

pub returns : goal.returns
returns g c =
    let lines : List (List ℕ) = packet_lines c.packets.result.now in
    subst (λ (pool : List (List ℕ)). Written (IsLinesText (packet_lines pool) true) (g.W.Write.contents c.args.writer.now) (g.W.Write.contents c.end_with_lines.new.writer) c.end_with_lines.result) c.packets.ensures
    (c.end_with_lines.ensures lines (appended-all c.append_packets-appended.result lines _ _ _ c.new-text.ensures.items c.append_packets-appended.ensures.ok c.as_slice.ensures.value)
    (appended-some c.append_packets-appended.result lines _ _ _ c.new-text.ensures.items c.append_packets-appended.ensures.err c.as_slice.ensures.value))
