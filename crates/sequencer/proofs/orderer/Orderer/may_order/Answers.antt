use Rattle.std.proofs.Common.{rules}
use Rattle.sequencer.proofs.orderer.Orderer.may_order.Goals as goal

pub returns-then-saturating_sub-lt-WINDOW : goal.returns-then-saturating_sub-lt-WINDOW
returns-then-saturating_sub-lt-WINDOW c = search rules

pub returns-else-saturating_sub-lt-WINDOW : goal.returns-else-saturating_sub-lt-WINDOW
returns-else-saturating_sub-lt-WINDOW c = search rules
