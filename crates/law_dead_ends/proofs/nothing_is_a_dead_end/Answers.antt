use Rattle.law_dead_ends.proofs.LawOfDeadEnds.{no-dead-end}
use Rattle.law_dead_ends.proofs.nothing_is_a_dead_end.Goals as goal

pub returns : goal.returns
returns g c =
    no-dead-end g.R.Receiver.meaning
    (record { opens = g.met.R.Receiver.opens; applies = g.met.R.Receiver.applies; decodes = g.met.R.Receiver.decodes; reads_back = g.met.R.Receiver.reads_back })
