use Rattle.std.proofs.Common.{◌≡◌, drop}
use Rattle.std.specs.List.{list_all}
use Rattle.flush.specs.Flushes.{has_reported}
use Rattle.flush.proofs.flushing.Flush.progress.Given as goal

-- those so far have reported
abbrev pub invariant-loop-member : goal.invariant-loop-member
invariant-loop-member l = list_all (λ m. has_reported m l.self.reports) l.self.members ≡ list_all (λ m. has_reported m l.self.reports) (drop l.member-index l.self.members)
