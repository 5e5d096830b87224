use Rattle.law_acts.proofs.KeepBySteps
use Rattle.world.proofs.KeepOfWorlds.{reached-keeps}
use Rattle.world.proofs.LoneViewsMeet.{lone-views-meet, lone-views-join}
use Rattle.world.proofs.law.lone_views_meet.Goals as goal

pub returns-clause-meets : goal.returns-clause-meets
returns-clause-meets g c = λ old noted p q reached.
    let laws : KeepBySteps.Laws g.R.Receiver.meaning = record { opens = g.met.R.Receiver.opens; applies = g.met.R.Receiver.applies; decodes = g.met.R.Receiver.decodes; reads_back = g.met.R.Receiver.reads_back } in
    lone-views-meet g.R.Receiver.meaning laws old noted p q (reached-keeps g.R.Receiver.meaning laws old reached)

pub returns-clause-join : goal.returns-clause-join
returns-clause-join g c = λ old noted new p q reached.
    let laws : KeepBySteps.Laws g.R.Receiver.meaning = record { opens = g.met.R.Receiver.opens; applies = g.met.R.Receiver.applies; decodes = g.met.R.Receiver.decodes; reads_back = g.met.R.Receiver.reads_back } in
    lone-views-join g.R.Receiver.meaning laws old noted new p q (reached-keeps g.R.Receiver.meaning laws old reached)
