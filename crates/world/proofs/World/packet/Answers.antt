use Rattle.std.proofs.Common.{rules}
use Rattle.world.proofs.World.packet.Goals as goal

pub returns : goal.returns
returns g c = search rules
