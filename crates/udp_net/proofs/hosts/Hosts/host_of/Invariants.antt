use Rattle.std.proofs.Common.{◌≡◌, take}
use Rattle.udp_net.specs.Hosts.{host_of}
use Rattle.udp_net.proofs.hosts.Hosts.host_of.Given as goal

abbrev pub invariant-loop-peer : goal.invariant-loop-peer
invariant-loop-peer l = l.host ≡ host_of l.node (take l.peer-index l.fn.self.peers)
