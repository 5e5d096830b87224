use Rattle.std.proofs.Common.{length}
use Rattle.flush.proofs.flushing.+held_among.Given as goal

abbrev pub decreases-held_among : goal.decreases-held_among
decreases-held_among l = length l.reports
