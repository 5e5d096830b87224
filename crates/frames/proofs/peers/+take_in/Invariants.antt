use Rattle.std.proofs.Common.{length}
use Rattle.frames.proofs.peers.+take_in.Given as goal

abbrev pub decreases-take_in : goal.decreases-take_in
decreases-take_in l = length l.peers.now
