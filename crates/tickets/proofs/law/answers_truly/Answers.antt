use Rattle.tickets.proofs.AnsweredTruly.{is-sent, stays-true}
use Rattle.tickets.proofs.law.answers_truly.Goals as goal

pub returns-clause-sent : goal.returns-clause-sent
returns-clause-sent c = is-sent

pub returns-clause-stays : goal.returns-clause-stays
returns-clause-stays c = stays-true
