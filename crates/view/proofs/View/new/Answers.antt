use Rattle.std.proofs.Common.{rules}
use Rattle.view.proofs.View.new.Goals as goal

pub returns-then-len-gt-MEMBERS : goal.returns-then-len-gt-MEMBERS
returns-then-len-gt-MEMBERS c = let h = c.if-is_empty.ensures in search rules

pub returns-then-not-is_distinct : goal.returns-then-not-is_distinct
returns-then-not-is_distinct c = let h' = c.if-is_empty.ensures in let h'' = c.if-not-is_distinct.ensures in search rules

pub invariant_of-result : goal.invariant_of-result
invariant_of-result c = search rules
