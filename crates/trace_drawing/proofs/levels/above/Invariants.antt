use Rattle.std.proofs.Common.{◌≤◌}
use Rattle.trace_drawing.specs.Layout.{above}
use Rattle.trace_drawing.proofs.levels.above.Given as goal

-- so many stand above the event
abbrev pub invariant-loop-count : goal.invariant-loop-count
invariant-loop-count l = l.count ≤ above l.asides l.number
