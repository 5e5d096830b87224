use Rattle.std.proofs.Common.{sym, ◌∙◌}
use Rattle.node_finding.specs.Ranks.{offer_in}
use Rattle.node_finding.proofs.RanksAreOrdered.{first-found, none-still}
use Rattle.node_finding.proofs.ranks.Moment.told_of.Goals as goal

pub returns-in-Some : goal.returns-in-Some
returns-in-Some c =
    sym (first-found (offer_in c.args.self.now c.args.view) _ c.loop-node.node-index c.node-item.result _ c.loop-node-test.true c.node-item.is c.loop-node.invariant (sym c.offer_in.ensures ∙ c.in-Some.is))

pub loop-node-preserved : goal.loop-node-preserved
loop-node-preserved c =
    none-still c.args.self.now _ c.loop-node.node-index c.node-item.result c.loop-node-test.true c.node-item.is (offer_in c.args.self.now c.args.view) c.loop-node.invariant (sym c.offer_in.ensures ∙ c.in_default.is)
