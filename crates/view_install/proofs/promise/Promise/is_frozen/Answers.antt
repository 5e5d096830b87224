use Rattle.std.proofs.Common.{rules}
use Rattle.view_install.proofs.promise.Promise.is_frozen.Goals as goal

pub returns-then-is_some : goal.returns-then-is_some
returns-then-is_some c = let h = c.if-is_some.ensures in search rules

pub returns-else-is_some : goal.returns-else-is_some
returns-else-is_some c = let h = c.if-is_some.ensures in search rules
