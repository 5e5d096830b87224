use Rattle.std.proofs.Common.{◌≡◌, map, take}
use Rattle.udp_net.specs.Bursts.{opened}
use Rattle.udp_net.specs.Hosts.{host_of}
use Rattle.udp_net.proofs.ways.Ways.new.Given as goal

abbrev pub invariant-loop-node : goal.invariant-loop-node
invariant-loop-node l = l.lanes.items ≡ map (λ n. opened n (host_of n.node l.fn.hosts.peers)) (take l.node-index l.nodes)
