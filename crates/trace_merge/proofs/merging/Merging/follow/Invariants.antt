use Rattle.std.proofs.Common.{◌≡◌}
use Rattle.std.specs.HashSet.{contains}
use Rattle.trace_merge.specs.Facts.{same_fact}
use Rattle.trace_merge.specs.Outcomes.{slices, followed}
use Rattle.trace_merge.proofs.merging.Merging.follow.Given as goal

-- so many steps were taken
abbrev pub invariant-loop : goal.invariant-loop
invariant-loop l = l.at ≡ followed (slices l.self.left.items) (contains same_fact l.self.awaited) l.process l.counter
