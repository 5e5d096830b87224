use Rattle.udp_net.proofs.KeepHosts.{hosts-next}
use Rattle.udp_net.proofs.hosts.Hosts.resolve.Goals.{in-Some+in_ok-own-in-Some, in-None}
use Rattle.udp_net.proofs.hosts.Hosts.resolve.Goals as goal

pub loop-node-preserved : goal.loop-node-preserved
loop-node-preserved g c =
    hosts-next c.args.peers.now _ c.loop-node-item.result c.loop-node.hosts.items _ _ c.loop-node-test.true c.loop-node-item.is c.loop-node.invariant c.in_ok-host.ensures c.in-Ok.ensures.items

pub returns-clause-own : goal.returns-clause-own
returns-clause-own g c =
    elim c.match-bind.branch [ in-Some+in_ok-own-in-Some w ↦ rw (w.in-Some.is, w.own-is) w.in_ok-own-in-Some.ensures | in-None w ↦ rw w.in-None.is w.own-is ]
