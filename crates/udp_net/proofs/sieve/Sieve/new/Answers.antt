use Rattle.std.proofs.Common.{refl}
use Rattle.udp_net.specs.Sieve.{unasked}
use Rattle.udp_net.specs.declared.node_ports.NodePort.{NodePort}
use Rattle.udp_net.proofs.PushedForEach.{pushed, all-pushed}
use Rattle.udp_net.proofs.sieve.Sieve.new.Goals as goal

pub loop-node-preserved : goal.loop-node-preserved
loop-node-preserved c =
    pushed (λ (n : NodePort). unasked n.node) c.args.nodes.now c.loop-node.node-index c.node-item.result c.loop-node-test.true c.node-item.is c.loop-node.invariant refl c.in_ok-push.ensures.items

pub returns : goal.returns
returns c = rw (all-pushed (λ (n : NodePort). unasked n.node) c.args.nodes.now c.loop-node.node-index c.loop-node-test.false c.loop-node.invariant, c.from.ensures) refl
