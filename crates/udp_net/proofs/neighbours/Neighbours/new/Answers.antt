use Rattle.std.proofs.Common.{refl}
use Rattle.udp_net.specs.Neighbours.{untold, newborn}
use Rattle.udp_net.specs.declared.node_ports.NodePort.{NodePort}
use Rattle.udp_net.proofs.PushedForEach.{pushed, all-pushed}
use Rattle.udp_net.proofs.neighbours.Neighbours.new.Goals as goal

pub loop-node-preserved : goal.loop-node-preserved
loop-node-preserved c =
    let i = c.loop-node.node-index in
    record {
      told = pushed (λ (n : NodePort). untold n.node) c.args.nodes.now i c.node-item.result c.loop-node-test.true c.node-item.is c.loop-node.invariant.told refl c.in_ok-push.ensures.items;
      ages = pushed (λ (n : NodePort). newborn n.node) c.args.nodes.now i c.node-item.result c.loop-node-test.true c.node-item.is c.loop-node.invariant.ages refl c.in_ok-push-2.ensures.items;
    }

pub returns : goal.returns
returns c =
    let i = c.loop-node.node-index in
    rw (all-pushed (λ (n : NodePort). untold n.node) c.args.nodes.now i c.loop-node-test.false c.loop-node.invariant.told, all-pushed (λ (n : NodePort). newborn n.node) c.args.nodes.now i c.loop-node-test.false c.loop-node.invariant.ages) refl
