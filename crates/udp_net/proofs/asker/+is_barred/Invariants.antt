use Rattle.std.proofs.Common.{length}
use Rattle.udp_net.proofs.asker.+is_barred.Given as goal

abbrev pub decreases-is_barred : goal.decreases-is_barred
decreases-is_barred l = length l.askers.now
