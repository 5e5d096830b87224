use Rattle.std.proofs.Common.{◌≡◌, map, take, drop, ◌++◌}
use Rattle.udp_net.specs.Neighbours.{remembered}
use Rattle.udp_net.proofs.neighbours.forget_old.Given as goal

-- it was so with those so far, and the rest are as they were
abbrev pub invariant-loop-neighbour : goal.invariant-loop-neighbour
invariant-loop-neighbour l = l.told ≡ map (remembered l.ages) (take l.neighbour-index l.fn.told) ++ drop l.neighbour-index l.fn.told
