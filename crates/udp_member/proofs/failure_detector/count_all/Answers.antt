use Rattle.std.proofs.Common.{sym, ap, ◌∙◌}
use Rattle.std.specs.Prelude.{slice_set}
use Rattle.std.proofs.lemmas.List.Edits.{map_over_more}
use Rattle.udp_member.specs.Detectors.{counted}
use Rattle.udp_member.proofs.failure_detector.count_all.Goals as goal

pub loop-count-preserved : goal.loop-count-preserved
loop-count-preserved c =
    let f = counted c.args.source in
    let i = c.loop-count.count-index in
    ap (slice_set c.loop-count.counts i) (c.counted.ensures ∙ ap f (sym c.count-item.is))
    ∙ map_over_more f c.args.counts.now c.loop-count.counts i c.count-item.result c.loop-count-test.true c.loop-count.invariant c.count-item.is
