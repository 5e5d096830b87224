use Rattle.trace_merge.proofs.LawOfOrders.{each-merge, has-order, same-reordered, same-verdict}
use Rattle.trace_merge.proofs.verdicts.verdicts_are_the_same.Goals as goal

pub returns-clause-merged : goal.returns-clause-merged
returns-clause-merged g c = each-merge g.R.Receiver.meaning

pub returns-clause-same : goal.returns-clause-same
returns-clause-same g c = same-verdict g.R.Receiver.meaning

pub returns-clause-unordered : goal.returns-clause-unordered
returns-clause-unordered g c = has-order g.R.Receiver.meaning

pub returns-clause-reordered : goal.returns-clause-reordered
returns-clause-reordered g c = same-reordered g.R.Receiver.meaning
