use Rattle.std.proofs.Common.{take}
use Rattle.world.specs.Worlds.{shown}
use Rattle.commands.specs.Asides.{HasAsides}
use Rattle.commands.proofs.RunsPrint.{OwnedReport}
use Rattle.commands.proofs.asides.play_events.Given as goal

-- the events so far are carried out, and what stands beside them is added
abbrev pub invariant-loop-index : goal.invariant-loop-index
invariant-loop-index g l = HasAsides g.R.Receiver.meaning l.packets l.lines (take l.index l.events) (shown l.world) l.asides.items × OwnedReport g.R.Receiver.meaning (shown l.world)
