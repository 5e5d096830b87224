use Rattle.std.proofs.Common.{◌≡◌, length}
use Rattle.wire_values.specs.Lists.{are_held}
use Rattle.wire_values.proofs.report.are_held.Given as goal

-- the entries that are left decide
abbrev pub invariant-loop-place : goal.invariant-loop-place
invariant-loop-place l = record {
  same : are_held l.stable l.delivered l.last l.left ≡ are_held l.stable l.delivered l.stable l.held;
}

abbrev pub decreases-loop-place : goal.decreases-loop-place
decreases-loop-place l = length l.left
