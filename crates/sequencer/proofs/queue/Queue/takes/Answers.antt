use Rattle.std.proofs.Common.{rules}
use Rattle.sequencer.proofs.queue.Queue.takes.Goals as goal

pub returns-then-number-self-le-OUTSTANDING : goal.returns-then-number-self-le-OUTSTANDING
returns-then-number-self-le-OUTSTANDING c = search rules

pub returns-else-number-self-le-OUTSTANDING : goal.returns-else-number-self-le-OUTSTANDING
returns-else-number-self-le-OUTSTANDING c = search rules
