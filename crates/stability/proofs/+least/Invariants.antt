use Rattle.std.proofs.Common.{length}
use Rattle.stability.proofs.+least.Given as goal

-- the part of the list that is left
abbrev pub decreases-least : goal.decreases-least
decreases-least l = length l.acks.now
