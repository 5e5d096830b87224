use Rattle.std.proofs.Common.{length}
use Rattle.udp_net.proofs.neighbours.+is_old.Given as goal

abbrev pub decreases-is_old : goal.decreases-is_old
decreases-is_old l = length l.ages.now
