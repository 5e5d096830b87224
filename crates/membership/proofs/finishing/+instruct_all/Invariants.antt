use Rattle.std.proofs.Common.{length}
use Rattle.membership.proofs.finishing.+instruct_all.Given as goal

abbrev pub decreases-instruct_all : goal.decreases-instruct_all
decreases-instruct_all l = length l.members.now
