use Rattle.law_acts.proofs.KeepBySteps
use Rattle.world.proofs.KeepOfWorlds.{reached-keeps}
use Rattle.world.proofs.CompletesAnyWay.{settled, brief, ends}
use Rattle.world.proofs.law.views_complete.Goals as goal

pub returns-clause-completes : goal.returns-clause-completes
returns-clause-completes g c = λ old new n v reached at.
    let laws : KeepBySteps.Laws g.R.Receiver.meaning = record { opens = g.met.R.Receiver.opens; applies = g.met.R.Receiver.applies; decodes = g.met.R.Receiver.decodes; reads_back = g.met.R.Receiver.reads_back } in
    settled g.R.Receiver.meaning laws old new n v (reached-keeps g.R.Receiver.meaning laws old reached) at

pub returns-clause-brief : goal.returns-clause-brief
returns-clause-brief g c = λ old new n v reached at.
    let laws : KeepBySteps.Laws g.R.Receiver.meaning = record { opens = g.met.R.Receiver.opens; applies = g.met.R.Receiver.applies; decodes = g.met.R.Receiver.decodes; reads_back = g.met.R.Receiver.reads_back } in
    brief g.R.Receiver.meaning laws old new n v (reached-keeps g.R.Receiver.meaning laws old reached) at

pub returns-clause-ends : goal.returns-clause-ends
returns-clause-ends g c = λ old new n v reached at.
    let laws : KeepBySteps.Laws g.R.Receiver.meaning = record { opens = g.met.R.Receiver.opens; applies = g.met.R.Receiver.applies; decodes = g.met.R.Receiver.decodes; reads_back = g.met.R.Receiver.reads_back } in
    ends g.R.Receiver.meaning laws old new n v (reached-keeps g.R.Receiver.meaning laws old reached) at
