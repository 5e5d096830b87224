use Rattle.std.proofs.Common.{rules}
use Rattle.stability.proofs.raised.Goals as goal

pub returns-then-eq : goal.returns-then-eq
returns-then-eq c = let h = c.if-eq.ensures in search rules

pub returns-else-eq : goal.returns-else-eq
returns-else-eq c = let h = c.if-eq.ensures in search rules
