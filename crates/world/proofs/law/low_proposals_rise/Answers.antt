use Rattle.law_acts.proofs.KeepBySteps
use Rattle.world.proofs.KeepOfWorlds.{reached-keeps}
use Rattle.world.proofs.RoundRaises.{raises}
use Rattle.world.proofs.TwoRounds.{overtakes, overtakes-settle, overtakes-brief}
use Rattle.world.proofs.RoundsAreEnough.{enough}
use Rattle.world.proofs.OvertakingEnds.{ends}
use Rattle.world.proofs.law.low_proposals_rise.Goals as goal

pub returns-clause-rise : goal.returns-clause-rise
returns-clause-rise g c = λ old new n q w reached at.
    let laws : KeepBySteps.Laws g.R.Receiver.meaning = record { opens = g.met.R.Receiver.opens; applies = g.met.R.Receiver.applies; decodes = g.met.R.Receiver.decodes; reads_back = g.met.R.Receiver.reads_back } in
    raises g.R.Receiver.meaning laws old new n q w (reached-keeps g.R.Receiver.meaning laws old reached) at

pub returns-clause-overtake : goal.returns-clause-overtake
returns-clause-overtake g c = λ old new n v reached at x.
    let laws : KeepBySteps.Laws g.R.Receiver.meaning = record { opens = g.met.R.Receiver.opens; applies = g.met.R.Receiver.applies; decodes = g.met.R.Receiver.decodes; reads_back = g.met.R.Receiver.reads_back } in
    (overtakes g.R.Receiver.meaning laws old new n v (reached-keeps g.R.Receiver.meaning laws old reached) at x).0

pub returns-clause-settle : goal.returns-clause-settle
returns-clause-settle g c = λ old mid new n v reached.
    let laws : KeepBySteps.Laws g.R.Receiver.meaning = record { opens = g.met.R.Receiver.opens; applies = g.met.R.Receiver.applies; decodes = g.met.R.Receiver.decodes; reads_back = g.met.R.Receiver.reads_back } in
    overtakes-settle g.R.Receiver.meaning laws old mid new n v (reached-keeps g.R.Receiver.meaning laws old reached)

pub returns-clause-brief : goal.returns-clause-brief
returns-clause-brief g c = λ old mid new n v reached.
    let laws : KeepBySteps.Laws g.R.Receiver.meaning = record { opens = g.met.R.Receiver.opens; applies = g.met.R.Receiver.applies; decodes = g.met.R.Receiver.decodes; reads_back = g.met.R.Receiver.reads_back } in
    overtakes-brief g.R.Receiver.meaning laws old mid new n v (reached-keeps g.R.Receiver.meaning laws old reached)

pub returns-clause-ends : goal.returns-clause-ends
returns-clause-ends g c = λ old new n v reached at short.
    let laws : KeepBySteps.Laws g.R.Receiver.meaning = record { opens = g.met.R.Receiver.opens; applies = g.met.R.Receiver.applies; decodes = g.met.R.Receiver.decodes; reads_back = g.met.R.Receiver.reads_back } in
    ends g.R.Receiver.meaning laws old n v (reached-keeps g.R.Receiver.meaning laws old reached) at new short

pub returns-clause-enough : goal.returns-clause-enough
returns-clause-enough g c = λ w n reached.
    let laws : KeepBySteps.Laws g.R.Receiver.meaning = record { opens = g.met.R.Receiver.opens; applies = g.met.R.Receiver.applies; decodes = g.met.R.Receiver.decodes; reads_back = g.met.R.Receiver.reads_back } in
    enough g.R.Receiver.meaning laws w n (reached-keeps g.R.Receiver.meaning laws w reached)
