use Rattle.std.proofs.Common.{◌≡◌, map, take, drop, ◌++◌}
use Rattle.udp_member.specs.Peers.{hearing}
use Rattle.udp_member.proofs.peers.hear_all.Given as goal

-- those so far have heard it, and the rest are as they were
abbrev pub invariant-loop-peer : goal.invariant-loop-peer
invariant-loop-peer l = l.peers ≡ map (hearing l.source) (take l.peer-index l.fn.peers) ++ drop l.peer-index l.fn.peers
