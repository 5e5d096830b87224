use Rattle.std.proofs.Common.{◌≡◌, map, take}
use Rattle.udp_member.specs.Peers.{unheard}
use Rattle.udp_member.proofs.peers.unheard_at.Given as goal

-- one for each node so far
abbrev pub invariant-loop-node : goal.invariant-loop-node
invariant-loop-node l = l.peers.items ≡ map unheard (take l.node-index l.nodes)
