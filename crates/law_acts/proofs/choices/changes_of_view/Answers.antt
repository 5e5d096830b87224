use Rattle.law_acts.proofs.ActsAreAllowed.{promises-acted, begins-acted, proposes-acted, due-acted, records-acted, gathers-acted, finishes-acted, enters-acted}
use Rattle.law_acts.proofs.choices.changes_of_view.Goals as goal

pub returns-clause-promises : goal.returns-clause-promises
returns-clause-promises g c = promises-acted g.R.Receiver.meaning

pub returns-clause-begins : goal.returns-clause-begins
returns-clause-begins g c = begins-acted g.R.Receiver.meaning

pub returns-clause-proposes : goal.returns-clause-proposes
returns-clause-proposes g c = proposes-acted g.R.Receiver.meaning

pub returns-clause-due : goal.returns-clause-due
returns-clause-due g c = due-acted g.R.Receiver.meaning

pub returns-clause-records : goal.returns-clause-records
returns-clause-records g c = records-acted g.R.Receiver.meaning

pub returns-clause-finishes : goal.returns-clause-finishes
returns-clause-finishes g c = finishes-acted g.R.Receiver.meaning

pub returns-clause-enters : goal.returns-clause-enters
returns-clause-enters g c = enters-acted g.R.Receiver.meaning

pub returns-clause-gathers : goal.returns-clause-gathers
returns-clause-gathers g c = gathers-acted g.R.Receiver.meaning
