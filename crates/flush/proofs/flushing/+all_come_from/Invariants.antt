use Rattle.std.proofs.Common.{length}
use Rattle.flush.proofs.flushing.+all_come_from.Given as goal

abbrev pub decreases-all_come_from : goal.decreases-all_come_from
decreases-all_come_from l = length l.reports
