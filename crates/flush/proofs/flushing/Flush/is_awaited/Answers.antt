use Rattle.std.proofs.Common.{rules}
use Rattle.flush.proofs.flushing.Flush.is_awaited.Goals as goal

pub returns-then-contains : goal.returns-then-contains
returns-then-contains c = let h = c.if-contains.ensures in search rules

pub returns-else-contains : goal.returns-else-contains
returns-else-contains c = let h = c.if-contains.ensures in search rules
