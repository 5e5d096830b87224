use Rattle.std.proofs.Common.{length}
use Rattle.traffic.proofs.follower.Follower.+forward_all.Given as goal

abbrev pub decreases-forward_all : goal.decreases-forward_all
decreases-forward_all l = length l.rest.now
