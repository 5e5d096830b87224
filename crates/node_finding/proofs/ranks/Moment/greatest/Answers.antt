use Rattle.std.proofs.Common.{sym, ◌∙◌}
use Rattle.node_finding.proofs.RanksAreOrdered.{greatest-next, greatest-still}
use Rattle.node_finding.proofs.ranks.Moment.greatest.Goals.{in-Some, in_default}
use Rattle.node_finding.proofs.ranks.Moment.greatest.Goals as goal

pub loop-node-preserved : goal.loop-node-preserved
loop-node-preserved c = elim c.match-other_of.branch [
  | in-Some w ↦ rw (w.best-is, w.greater_of.ensures)
      (greatest-next c.args.self.now _ c.loop-node.node-index c.node-item.result c.loop-node-test.true c.node-item.is _ _ _ (sym c.other_of.ensures ∙ w.in-Some.is) c.loop-node.invariant)
  | in_default w ↦ rw w.best-is
      (greatest-still c.args.self.now _ c.loop-node.node-index c.node-item.result c.loop-node-test.true c.node-item.is _ _ (sym c.other_of.ensures ∙ w.in_default.is) c.loop-node.invariant)
]
