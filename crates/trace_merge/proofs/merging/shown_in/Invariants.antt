use Rattle.std.proofs.Common.{◌≡◌, take}
use Rattle.std.specs.HashSet.{contains}
use Rattle.trace_merge.specs.declared.fact.Fact.{Fact}
use Rattle.trace_merge.specs.Facts.{same_fact}
use Rattle.trace_merge.specs.Merges.{lists_of, comes_in}
use Rattle.trace_merge.proofs.merging.shown_in.Given as goal

-- what the traces so far show
abbrev pub invariant-loop-trace : goal.invariant-loop-trace
invariant-loop-trace l = (f : Fact) → contains same_fact l.facts f ≡ comes_in (lists_of (take l.trace-index l.traces)) f
