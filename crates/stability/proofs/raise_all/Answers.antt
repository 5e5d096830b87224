use Rattle.std.proofs.Common.{sym, ap, ◌∙◌}
use Rattle.std.specs.Prelude.{slice_set}
use Rattle.std.proofs.lemmas.List.Edits.{map_over_more}
use Rattle.stability.specs.Counts.{raised}
use Rattle.stability.proofs.raise_all.Goals as goal

pub loop-ack-preserved : goal.loop-ack-preserved
loop-ack-preserved c =
    let f = raised c.args.member.now c.args.count in
    let i = c.loop-ack.ack-index in
    ap (slice_set c.loop-ack.acks i) (c.raised.ensures ∙ ap f (sym c.ack-item.is))
    ∙ map_over_more f c.args.acks.now c.loop-ack.acks i c.ack-item.result c.loop-ack-test.true c.loop-ack.invariant c.ack-item.is
