use Rattle.std.proofs.Common.{length}
use Rattle.wire_values.proofs.install.+is_in_order.Given as goal

-- those of them who are left
abbrev pub decreases-is_in_order : goal.decreases-is_in_order
decreases-is_in_order l = length l.together.now
