use Rattle.udp_member.proofs.RoundsCompose.{SuspectedSoFar}
use Rattle.udp_member.proofs.runner.Runner.suspect_all.Given as goal

-- the silent of the first addresses were handed in
abbrev pub invariant-loop-address : goal.invariant-loop-address
invariant-loop-address g l = SuspectedSoFar g.N.Net.log g.N.Net.failed g.R.Receiver.meaning l.watched l.address-index l.fn.self l.is_heard l.self
