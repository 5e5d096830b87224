use Rattle.std.proofs.Common.{rules}
use Rattle.channel.proofs.stage.Stage.hand.Goals as goal

-- its member is let go where it has ended, and only there
pub returns-then-is_over : goal.returns-then-is_over
returns-then-is_over g c = search rules

pub returns-else-is_over : goal.returns-else-is_over
returns-else-is_over g c = search rules
