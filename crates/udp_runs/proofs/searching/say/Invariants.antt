use Rattle.udp_net.specs.Logs.{Lists}
use Rattle.udp_runs.proofs.searching.say.Given as goal

-- words were said
abbrev pub invariant-loop-place : goal.invariant-loop-place
invariant-loop-place g l = Lists (g.N.Net.log l.fn.net) (λ x. x) (g.N.Net.log l.net)
