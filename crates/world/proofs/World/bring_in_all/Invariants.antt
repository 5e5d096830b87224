use Rattle.std.proofs.Common.{take}
use Rattle.world.specs.Worlds.{shown}
use Rattle.world.specs.LostInstalls.{BringsAll}
use Rattle.world.proofs.World.bring_in_all.Given as goal

-- those of the first addresses who awaited their INSTALLs are in the view
abbrev pub invariant-loop-address : goal.invariant-loop-address
invariant-loop-address g l = BringsAll g.R.Receiver.meaning l.fn.node l.fn.view (shown l.fn.self) (take l.address-index l.fn.view.members) (shown l.self)
