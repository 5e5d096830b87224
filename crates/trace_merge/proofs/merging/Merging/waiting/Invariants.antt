use Rattle.std.proofs.Common.{◌≡◌, ℕ, ◌<◌, false}
use Rattle.trace_merge.specs.Merges.{events_at, has_next}
use Rattle.trace_merge.specs.Outcomes.{slices}
use Rattle.trace_merge.proofs.merging.Merging.waiting.Given as goal

-- none so far has a next event
abbrev pub invariant-loop-process : goal.invariant-loop-process
invariant-loop-process l = (k : ℕ) → k < l.process → has_next (events_at (slices l.self.left.items) k) ≡ false
