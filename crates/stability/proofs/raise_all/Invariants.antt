use Rattle.std.proofs.Common.{◌≡◌, map, take, drop, ◌++◌}
use Rattle.stability.specs.Counts.{raised}
use Rattle.stability.proofs.raise_all.Given as goal

-- those so far are raised, and the rest are as they were
abbrev pub invariant-loop-ack : goal.invariant-loop-ack
invariant-loop-ack l = l.acks ≡ map (raised l.member l.count) (take l.ack-index l.fn.acks) ++ drop l.ack-index l.fn.acks
