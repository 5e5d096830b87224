use Rattle.udp_member.proofs.RoundsCompose.{HeardSoFar}
use Rattle.udp_member.proofs.runner.Runner.listen.Given as goal

-- each turn so far handed in a datagram
abbrev pub invariant-loop-turn : goal.invariant-loop-turn
invariant-loop-turn g l = HeardSoFar g.N.Net.log g.N.Net.failed g.R.Receiver.meaning l.fn.self l.turn l.self
