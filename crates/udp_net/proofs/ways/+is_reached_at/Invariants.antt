use Rattle.std.proofs.Common.{length}
use Rattle.udp_net.proofs.ways.+is_reached_at.Given as goal

abbrev pub decreases-is_reached_at : goal.decreases-is_reached_at
decreases-is_reached_at l = length l.lanes.now
