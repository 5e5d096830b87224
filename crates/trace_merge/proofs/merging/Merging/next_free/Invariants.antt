use Rattle.std.proofs.Common.{◌≡◌, ℕ, ◌<◌, false}
use Rattle.std.specs.HashSet.{contains}
use Rattle.trace_merge.specs.Facts.{same_fact}
use Rattle.trace_merge.specs.Merges.{events_at, starts_free}
use Rattle.trace_merge.specs.Outcomes.{slices}
use Rattle.trace_merge.proofs.merging.Merging.next_free.Given as goal

-- none so far starts free
abbrev pub invariant-loop-process : goal.invariant-loop-process
invariant-loop-process l = (k : ℕ) → k < l.process → starts_free (contains same_fact l.self.awaited) (events_at (slices l.self.left.items) k) ≡ false
