use Rattle.std.proofs.Common.{length}
use Rattle.membership.proofs.finishing.+own_of.Given as goal

abbrev pub decreases-own_of : goal.decreases-own_of
decreases-own_of l = length l.entries.now
