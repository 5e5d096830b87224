use Rattle.std.proofs.Common.{length}
use Rattle.membership.proofs.beginning.+announce_all.Given as goal

abbrev pub decreases-announce_all : goal.decreases-announce_all
decreases-announce_all l = length l.members.now
