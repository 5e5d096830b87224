use Rattle.std.proofs.Common.{length}
use Rattle.frames.proofs.framed_net.+send_on.Given as goal

abbrev pub decreases-send_on : goal.decreases-send_on
decreases-send_on g l = length l.outlets.now
