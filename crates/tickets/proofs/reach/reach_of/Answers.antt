use Rattle.std.proofs.Common.{rules}
use Rattle.tickets.proofs.reach.reach_of.Goals as goal

pub returns-in_default-now : goal.returns-in_default-now
returns-in_default-now c = search rules
