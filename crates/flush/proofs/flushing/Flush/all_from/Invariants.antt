use Rattle.std.proofs.Common.{◌≡◌, take, filter}
use Rattle.flush.specs.Flushes.{has_come_from}
use Rattle.flush.proofs.flushing.Flush.all_from.Given as goal

-- those of the members so far are there
abbrev pub invariant-loop-member : goal.invariant-loop-member
invariant-loop-member l = l.left.items ≡ filter (λ m. has_come_from l.previous m l.self.reports) (take l.member-index l.self.members)
