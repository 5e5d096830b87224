use Rattle.std.proofs.Common.{length}
use Rattle.frames.proofs.partial.+join.Given as goal

abbrev pub decreases-join : goal.decreases-join
decreases-join l = length l.pieces.now
