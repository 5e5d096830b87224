use Rattle.std.proofs.Common.{Option, ◌+◌, ◌-◌}
use Rattle.address.specs.declared.limits.TheConstants.{WINDOW}
use Rattle.wire_values.specs.Posted.{Posted}
use Rattle.traffic.specs.Goings.{FollowerGoes}
use Rattle.traffic.specs.Takes.{DeliversHeld}
use Rattle.traffic.proofs.follower.Follower.deliver_all.Given as goal
use Rattle.step_output.specs.Steps.{who_of}
use Rattle.traffic.specs.InViews.{in_view}

abbrev pub invariant-loop : goal.invariant-loop
invariant-loop g l = ((came : Option Posted) → FollowerGoes g.R.Receiver.meaning came (who_of l.who) (in_view l.fn.self l.fn.receiver l.fn.out) (in_view l.self l.receiver l.out))
    × DeliversHeld g.R.Receiver.meaning (who_of l.who) (in_view l.fn.self l.fn.receiver l.fn.out) (in_view l.self l.receiver l.out)

abbrev pub decreases-loop : goal.decreases-loop
decreases-loop g l = l.self.window.stable + WINDOW - l.self.window.delivered
