use Rattle.std.proofs.Common.{◌≡◌, map, take, drop, ◌++◌}
use Rattle.udp_member.specs.Detectors.{counted}
use Rattle.udp_member.proofs.failure_detector.count_all.Given as goal

-- those so far are counted, and the rest are as they were
abbrev pub invariant-loop-count : goal.invariant-loop-count
invariant-loop-count l = l.counts ≡ map (counted l.source) (take l.count-index l.fn.counts) ++ drop l.count-index l.fn.counts
