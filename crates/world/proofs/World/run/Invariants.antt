use Rattle.std.proofs.Common.{take}
use Rattle.world.specs.Worlds.{Runs, shown}
use Rattle.world.proofs.World.run.Given as goal

-- the events so far are carried out
abbrev pub invariant-loop-event : goal.invariant-loop-event
invariant-loop-event g l = Runs g.R.Receiver.meaning (shown l.fn.self) (take l.event-index l.events) (shown l.self)
