use Rattle.std.proofs.Common.{ℕ, ◌<◌, ◌≤◌}
use Rattle.std.specs.Prelude.{IsSome}
use Rattle.wire_values.specs.Values.{held_at}
use Rattle.nak_stream.proofs.window.Window.greatest_gap.Given as goal

-- all numbers past this one are held
abbrev pub invariant-loop-number : goal.invariant-loop-number
invariant-loop-number l = (l.number ≤ l.highest) × ((g : ℕ) → l.number < g → g ≤ l.highest → IsSome (held_at g l.self.held))

abbrev pub decreases-loop-number : goal.decreases-loop-number
decreases-loop-number l = l.number
