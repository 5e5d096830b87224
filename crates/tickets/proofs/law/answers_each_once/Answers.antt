use Rattle.tickets.proofs.AnsweredOnce.{forgets-none}
use Rattle.tickets.proofs.law.answers_each_once.Goals as goal

pub returns : goal.returns
returns c = forgets-none
