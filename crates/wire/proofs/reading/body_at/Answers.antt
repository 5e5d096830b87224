use Rattle.std.proofs.Common.{rules}
use Rattle.wire.specs.Packets.{body_at}
use Rattle.wire.proofs.reading.body_at.Goals as goal

pub returns-in-3 : goal.returns-in-3
unfolding body_at
returns-in-3 c = search rules
