use Rattle.std.proofs.Common.{◌≡◌, map, take}
use Rattle.udp_member.specs.Detectors.{count_after}
use Rattle.udp_member.proofs.failure_detector.FailureDetector.pass.Given as goal

-- those so far have their counts
abbrev pub invariant-loop-address : goal.invariant-loop-address
invariant-loop-address l = l.counts.items ≡ map (count_after l.stays l.fn.self.counts) (take l.address-index l.watched)
