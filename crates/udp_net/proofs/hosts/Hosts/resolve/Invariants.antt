use Rattle.std.proofs.Common.{take}
use Rattle.udp_net.specs.Hosts.{AreHostsOf}
use Rattle.udp_net.proofs.hosts.Hosts.resolve.Given as goal

abbrev pub invariant-loop-node : goal.invariant-loop-node
invariant-loop-node g l = AreHostsOf (take l.node-index l.fn.peers) l.hosts.items
