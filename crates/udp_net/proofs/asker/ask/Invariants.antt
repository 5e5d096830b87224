use Rattle.std.proofs.Common.{◌≡◌, map, take, drop, ◌++◌}
use Rattle.udp_net.specs.Sieve.{asking}
use Rattle.udp_net.proofs.asker.ask.Given as goal

-- it was so with those so far, and the rest are as they were
abbrev pub invariant-loop-asker : goal.invariant-loop-asker
invariant-loop-asker l = l.askers ≡ map (asking l.silent l.address) (take l.asker-index l.fn.askers) ++ drop l.asker-index l.fn.askers
