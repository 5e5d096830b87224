use Rattle.std.proofs.Common.{ℕ, ◌<◌, ◌≤◌, ◌-◌}
use Rattle.std.specs.Prelude.{IsSome}
use Rattle.wire_values.specs.Values.{held_at}
use Rattle.nak_stream.proofs.window.Window.least_gap.Given as goal

-- all numbers so far are held
abbrev pub invariant-loop-before : goal.invariant-loop-before
invariant-loop-before l =
    (l.self.delivered ≤ l.before) × ((g : ℕ) → l.self.delivered < g → g ≤ l.before → IsSome (held_at g l.self.held))

abbrev pub decreases-loop-before : goal.decreases-loop-before
decreases-loop-before l = l.highest - l.before
