use Rattle.std.proofs.Common.{◌≡◌, drop}
use Rattle.udp_member.specs.Peers.{has_node}
use Rattle.udp_member.proofs.peers.has_node.Given as goal

-- none of those so far is of it
abbrev pub invariant-loop-member : goal.invariant-loop-member
invariant-loop-member l = has_node l.node l.members ≡ has_node l.node (drop l.member-index l.members)
