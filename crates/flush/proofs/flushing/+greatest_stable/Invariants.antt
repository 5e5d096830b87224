use Rattle.std.proofs.Common.{length}
use Rattle.flush.proofs.flushing.+greatest_stable.Given as goal

abbrev pub decreases-greatest_stable : goal.decreases-greatest_stable
decreases-greatest_stable l = length l.reports
