use Rattle.std.proofs.Common.{rules}
use Rattle.view_install.proofs.promise.Promise.may_install.Goals as goal

pub returns-in-None : goal.returns-in-None
returns-in-None c = search rules

pub returns-then-same_view : goal.returns-then-same_view
returns-then-same_view c = let h = c.if-same_view.ensures in search rules

pub returns-else-same_view : goal.returns-else-same_view
returns-else-same_view c = let h = c.if-same_view.ensures in search rules
