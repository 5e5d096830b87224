use Rattle.std.proofs.Common.{◌≡◌, true, take}
use Rattle.std.specs.List.{list_all}
use Rattle.flush.specs.Flushes.{has_reported}
use Rattle.membership.proofs.reporting.is_complete.Given as goal

abbrev pub invariant-loop-member : goal.invariant-loop-member
invariant-loop-member l = list_all (λ m. has_reported m l.flush.reports) (take l.member-index l.member-items) ≡ true
