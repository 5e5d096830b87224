use Rattle.std.proofs.Common.{length}
use Rattle.udp_net.proofs.ways.+is_on_a_lane.Given as goal

abbrev pub decreases-is_on_a_lane : goal.decreases-is_on_a_lane
decreases-is_on_a_lane l = length l.lanes.now
