use Rattle.std.proofs.Common.{length}
use Rattle.std.specs.List.{sum_by}
use Rattle.std.specs.HashSet.{contains}
use Rattle.trace_merge.specs.Facts.{same_fact}
use Rattle.trace_merge.specs.Merges.{lists_of, HaveCome, AreRecordable}
use Rattle.trace_merge.specs.Outcomes.{slices}
use Rattle.trace_merge.proofs.merging.merged_so_far.Given as goal

-- some have come, in order
abbrev pub invariant-loop-process : goal.invariant-loop-process
invariant-loop-process l =
    HaveCome (lists_of l.traces) (slices l.merging.left.items) (contains same_fact l.merging.awaited) l.merging.merged.events × AreRecordable (slices l.merging.left.items)

-- fewer and fewer are left
abbrev pub decreases-loop-process : goal.decreases-loop-process
decreases-loop-process l = sum_by length (slices l.merging.left.items)
