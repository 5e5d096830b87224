use Rattle.law_acts.proofs.KeepBySteps
use Rattle.world.proofs.KeepOfWorlds.{reached-keeps}
use Rattle.world.proofs.SettlingsSettle.{settled, brief}
use Rattle.world.proofs.SettlingEnds.{ends}
use Rattle.world.proofs.law.views_settle.Goals as goal

pub returns-clause-settles : goal.returns-clause-settles
returns-clause-settles g c = λ old new n v reached.
    let laws : KeepBySteps.Laws g.R.Receiver.meaning = record { opens = g.met.R.Receiver.opens; applies = g.met.R.Receiver.applies; decodes = g.met.R.Receiver.decodes; reads_back = g.met.R.Receiver.reads_back } in
    settled g.R.Receiver.meaning laws old new n v (reached-keeps g.R.Receiver.meaning laws old reached)

pub returns-clause-brief : goal.returns-clause-brief
returns-clause-brief g c = λ old new n v reached.
    let laws : KeepBySteps.Laws g.R.Receiver.meaning = record { opens = g.met.R.Receiver.opens; applies = g.met.R.Receiver.applies; decodes = g.met.R.Receiver.decodes; reads_back = g.met.R.Receiver.reads_back } in
    brief g.R.Receiver.meaning laws old new n v (reached-keeps g.R.Receiver.meaning laws old reached)

pub returns-clause-ends : goal.returns-clause-ends
returns-clause-ends g c = λ old new n v reached.
    let laws : KeepBySteps.Laws g.R.Receiver.meaning = record { opens = g.met.R.Receiver.opens; applies = g.met.R.Receiver.applies; decodes = g.met.R.Receiver.decodes; reads_back = g.met.R.Receiver.reads_back } in
    ends g.R.Receiver.meaning laws old new n v (reached-keeps g.R.Receiver.meaning laws old reached)
