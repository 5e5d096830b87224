use Rattle.std.proofs.Common.{take}
use Rattle.world.specs.Worlds.{shown}
use Rattle.world.specs.Calm.{AllSpeak}
use Rattle.world.proofs.World.all_speak.Given as goal

-- those so far spoke
abbrev pub invariant-loop-address : goal.invariant-loop-address
invariant-loop-address g l = AllSpeak g.R.Receiver.meaning l.fn.view.id.creator (shown l.fn.self) (take l.address-index l.fn.view.members) (shown l.self)
