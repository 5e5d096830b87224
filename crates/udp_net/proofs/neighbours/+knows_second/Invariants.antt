use Rattle.std.proofs.Common.{length}
use Rattle.udp_net.proofs.neighbours.+knows_second.Given as goal

abbrev pub decreases-knows_second : goal.decreases-knows_second
decreases-knows_second l = length l.told.now
