use Rattle.std.proofs.Common.{take}
use Rattle.world.specs.Worlds.{shown}
use Rattle.world.specs.Calm.{AllLevel}
use Rattle.world.proofs.World.all_level.Given as goal

-- those so far are level
abbrev pub invariant-loop-address : goal.invariant-loop-address
invariant-loop-address g l = AllLevel g.R.Receiver.meaning l.fn.view.id (shown l.fn.self) (take l.address-index l.fn.view.members) (shown l.self)
