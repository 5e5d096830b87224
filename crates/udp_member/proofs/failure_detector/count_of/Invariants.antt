use Rattle.std.proofs.Common.{◌≡◌, drop}
use Rattle.udp_member.specs.Detectors.{count_of}
use Rattle.udp_member.proofs.failure_detector.count_of.Given as goal

-- it is not of those so far
abbrev pub invariant-loop-count : goal.invariant-loop-count
invariant-loop-count l = count_of l.address l.counts ≡ count_of l.address (drop l.count-index l.counts)
