use Rattle.lock_table.proofs.GrantsWereAsked.{answers-stay, true-grants}
use Rattle.lock_table.proofs.service_law.grants.Goals as goal

pub returns-clause-stay : goal.returns-clause-stay
returns-clause-stay c = answers-stay

pub returns-clause-are_true : goal.returns-clause-are_true
returns-clause-are_true c = true-grants
