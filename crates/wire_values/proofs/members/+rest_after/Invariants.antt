use Rattle.std.proofs.Common.{length}
use Rattle.wire_values.proofs.members.+rest_after.Given as goal

-- the part of the list that is left
abbrev pub decreases-rest_after : goal.decreases-rest_after
decreases-rest_after l = length l.members.now
