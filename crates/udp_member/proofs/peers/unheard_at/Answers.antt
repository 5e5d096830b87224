use Rattle.std.proofs.Common.{refl}
use Rattle.udp_net.proofs.PushedForEach.{pushed, all-pushed}
use Rattle.udp_member.specs.Peers.{unheard}
use Rattle.udp_member.proofs.peers.unheard_at.Goals as goal

pub loop-node-preserved : goal.loop-node-preserved
loop-node-preserved c = pushed unheard c.args.nodes.now c.loop-node.node-index c.node-item.result c.loop-node-test.true c.node-item.is c.loop-node.invariant refl c.in_ok-push.ensures.items

pub returns : goal.returns
returns c = all-pushed unheard c.args.nodes.now c.loop-node.node-index c.loop-node-test.false c.loop-node.invariant
