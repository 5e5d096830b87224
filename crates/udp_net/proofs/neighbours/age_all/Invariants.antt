use Rattle.std.proofs.Common.{◌≡◌, map, take, drop, ◌++◌}
use Rattle.udp_net.specs.Neighbours.{older}
use Rattle.udp_net.proofs.neighbours.age_all.Given as goal

-- it was so with those so far, and the rest are as they were
abbrev pub invariant-loop-age : goal.invariant-loop-age
invariant-loop-age l = l.ages ≡ map older (take l.age-index l.fn.ages) ++ drop l.age-index l.fn.ages
