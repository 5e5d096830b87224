use Rattle.std.proofs.Common.{length}
use Rattle.frames.proofs.framed_net.+gather.Given as goal

abbrev pub decreases-gather : goal.decreases-gather
decreases-gather l = length l.outlets.now
