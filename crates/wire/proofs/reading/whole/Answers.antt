use Rattle.std.proofs.Common.{rules}
use Rattle.wire.specs.Packets.{packet_of}
use Rattle.wire.proofs.reading.whole.Goals as goal

pub returns : goal.returns
unfolding packet_of
returns c = search rules

pub returns-then-not-is_empty : goal.returns-then-not-is_empty
unfolding packet_of
returns-then-not-is_empty c = search rules
