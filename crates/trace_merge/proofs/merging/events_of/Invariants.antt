use Rattle.std.proofs.Common.{◌≡◌, take}
use Rattle.trace_merge.specs.Merges.{lists_of, AreRecordable}
use Rattle.trace_merge.specs.Outcomes.{slices}
use Rattle.trace_merge.proofs.merging.events_of.Given as goal

-- those of the traces so far
abbrev pub invariant-loop-trace : goal.invariant-loop-trace
invariant-loop-trace l = (slices l.left.items ≡ lists_of (take l.trace-index l.traces)) × AreRecordable (slices l.left.items)
