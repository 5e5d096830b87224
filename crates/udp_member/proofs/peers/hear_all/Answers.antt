use Rattle.std.proofs.Common.{sym, ap, ◌∙◌}
use Rattle.std.specs.Prelude.{slice_set}
use Rattle.std.proofs.lemmas.List.Edits.{map_over_more}
use Rattle.udp_member.specs.Peers.{hearing}
use Rattle.udp_member.proofs.peers.hear_all.Goals as goal

pub loop-peer-preserved : goal.loop-peer-preserved
loop-peer-preserved c =
    let f = hearing c.args.source in
    let i = c.loop-peer.peer-index in
    ap (slice_set c.loop-peer.peers i) (c.heard.ensures ∙ ap f (sym c.peer-item.is))
    ∙ map_over_more f c.args.peers.now c.loop-peer.peers i c.peer-item.result c.loop-peer-test.true c.loop-peer.invariant c.peer-item.is
