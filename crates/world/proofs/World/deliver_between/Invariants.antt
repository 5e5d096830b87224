use Rattle.std.proofs.Common.{◌-◌, ◌≤◌, max}
use Rattle.world.specs.Worlds.{shown}
use Rattle.world.specs.Plays.{Delivers}
use Rattle.world.proofs.World.deliver_between.Given as goal

-- all up to this number are delivered
abbrev pub invariant-loop-number : goal.invariant-loop-number
invariant-loop-number g l =
    Delivers g.R.Receiver.meaning l.fn.past (l.number - l.fn.past) (shown l.fn.self) (shown l.self)
    × (l.fn.past ≤ l.number) × (l.number ≤ max l.fn.past l.fn.last)

abbrev pub decreases-loop-number : goal.decreases-loop-number
decreases-loop-number g l = l.fn.last - l.number
