use Rattle.std.proofs.Common.{◌≡◌, take}
use Rattle.udp_member.specs.Peers.{met}
use Rattle.udp_member.proofs.peers.Peers.meet.Given as goal

-- those so far were met
abbrev pub invariant-loop-member : goal.invariant-loop-member
invariant-loop-member l = l.self ≡ met (take l.member-index l.members) l.fn.self
