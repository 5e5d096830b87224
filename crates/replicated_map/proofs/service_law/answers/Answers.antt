use Rattle.replicated_map.proofs.AnswersSayWhat.{answers-stay, true-answers, each-delivery}
use Rattle.replicated_map.proofs.service_law.answers.Goals as goal

pub returns-clause-stay : goal.returns-clause-stay
returns-clause-stay c = answers-stay

pub returns-clause-are_true : goal.returns-clause-are_true
returns-clause-are_true c = true-answers

pub returns-clause-each : goal.returns-clause-each
returns-clause-each c = each-delivery
