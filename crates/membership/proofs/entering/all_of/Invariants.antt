use Rattle.std.proofs.Common.{◌≡◌, ◌++◌, length}
use Rattle.membership.proofs.entering.all_of.Given as goal

abbrev pub invariant-loop-entry : goal.invariant-loop-entry
invariant-loop-entry l = l.entries.items ++ l.left ≡ l.fn.items

abbrev pub decreases-loop-entry : goal.decreases-loop-entry
decreases-loop-entry l = length l.left
