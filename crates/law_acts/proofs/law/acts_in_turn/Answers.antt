use Rattle.law_acts.proofs.LawsOfActs.{nothing-acted, one-acted, then-acted}
use Rattle.law_acts.proofs.law.acts_in_turn.Goals as goal

pub returns-clause-nothing : goal.returns-clause-nothing
returns-clause-nothing g c = nothing-acted g.R.Receiver.meaning

pub returns-clause-one : goal.returns-clause-one
returns-clause-one g c = one-acted g.R.Receiver.meaning

pub returns-clause-two : goal.returns-clause-two
returns-clause-two g c = then-acted g.R.Receiver.meaning
