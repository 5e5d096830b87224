use Rattle.lock_table.proofs.QueuesKeepOrder.{queue-after, stands-on, granted-first}
use Rattle.lock_table.proofs.law.in_turn.Goals as goal

pub returns-clause-turns : goal.returns-clause-turns
returns-clause-turns c = queue-after

pub returns-clause-grants : goal.returns-clause-grants
returns-clause-grants c = granted-first

pub returns-clause-stands_on : goal.returns-clause-stands_on
returns-clause-stands_on c = λ s messages name p is all st stay. stands-on messages s name p is all st stay
