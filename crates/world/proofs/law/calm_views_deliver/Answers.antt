use Rattle.law_acts.proofs.KeepBySteps
use Rattle.world.proofs.KeepOfWorlds.{reached-keeps}
use Rattle.world.proofs.CalmRounds.{calm-delivers, calm-is-brief}
use Rattle.world.proofs.CalmStops.{calm-ends}
use Rattle.world.proofs.law.calm_views_deliver.Goals as goal

pub returns-clause-deliver : goal.returns-clause-deliver
returns-clause-deliver g c = λ old new n v sound reached.
    let laws : KeepBySteps.Laws g.R.Receiver.meaning = record { opens = g.met.R.Receiver.opens; applies = g.met.R.Receiver.applies; decodes = g.met.R.Receiver.decodes; reads_back = g.met.R.Receiver.reads_back } in
    calm-delivers g.R.Receiver.meaning laws old new n v sound (reached-keeps g.R.Receiver.meaning laws old reached)

pub returns-clause-brief : goal.returns-clause-brief
returns-clause-brief g c = λ old new n v sound reached.
    let laws : KeepBySteps.Laws g.R.Receiver.meaning = record { opens = g.met.R.Receiver.opens; applies = g.met.R.Receiver.applies; decodes = g.met.R.Receiver.decodes; reads_back = g.met.R.Receiver.reads_back } in
    calm-is-brief g.R.Receiver.meaning laws old new n v sound (reached-keeps g.R.Receiver.meaning laws old reached)

pub returns-clause-ends : goal.returns-clause-ends
returns-clause-ends g c = λ old new n v sound reached.
    let laws : KeepBySteps.Laws g.R.Receiver.meaning = record { opens = g.met.R.Receiver.opens; applies = g.met.R.Receiver.applies; decodes = g.met.R.Receiver.decodes; reads_back = g.met.R.Receiver.reads_back } in
    calm-ends g.R.Receiver.meaning laws old new n v sound (reached-keeps g.R.Receiver.meaning laws old reached)
