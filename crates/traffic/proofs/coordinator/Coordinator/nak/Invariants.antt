use Rattle.std.proofs.Common.{◌+◌, ◌-◌, ◌≤◌, max, []}
use Rattle.step_output.specs.Outputs.{Grows}
use Rattle.traffic.specs.Takes.{orders_held}
use Rattle.traffic.proofs.coordinator.Coordinator.nak.Given as goal

abbrev pub invariant-loop-g : goal.invariant-loop-g
invariant-loop-g l =
    Grows l.fn.who.group l.initial.out l.out (orders_held l.fn.who.address l.fn.self.view l.fn.source l.fn.self.window.held l.low (l.g - l.low)) []
    × (l.low ≤ l.g) × (l.g ≤ max l.low (l.high + 1))

abbrev pub decreases-loop-g : goal.decreases-loop-g
decreases-loop-g l = l.high + 1 - l.g
