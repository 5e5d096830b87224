use Rattle.std.proofs.Common.{Option, length}
use Rattle.wire_values.specs.Posted.{Posted}
use Rattle.traffic.specs.ViewStates.{waiting_of}
use Rattle.traffic.specs.Goings.{CoordinatorGoes}
use Rattle.traffic.specs.Turns.{Ordering, IsSettled}
use Rattle.traffic.proofs.coordinator.Coordinator.order.Given as goal
use Rattle.step_output.specs.Steps.{who_of}
use Rattle.traffic.specs.InViews.{in_view}

abbrev pub invariant-loop : goal.invariant-loop
invariant-loop g l = ((came : Option Posted) → CoordinatorGoes g.R.Receiver.meaning came (who_of l.who) (in_view l.fn.self l.fn.receiver l.fn.out) (in_view l.self l.receiver l.out))
    × IsSettled l.who.address l.self
    × Ordering g.R.Receiver.meaning (who_of l.who) (in_view l.fn.self l.fn.receiver l.fn.out) (in_view l.self l.receiver l.out)

abbrev pub decreases-loop : goal.decreases-loop
decreases-loop g l = length (waiting_of l.self.orderer.queues)
