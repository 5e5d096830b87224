use Rattle.law_acts.proofs.KeepBySteps.{keeps-invariant, always-synchronous}
use Rattle.law_acts.proofs.KeepByCall.{acted-keeps}
use Rattle.law_acts.proofs.KnownOfMembers.{members-know, stable-stays}
use Rattle.law_acts.proofs.agreement_law.agreement.Goals as goal

pub returns-clause-invariant : goal.returns-clause-invariant
returns-clause-invariant g c =
    keeps-invariant g.R.Receiver.meaning
    (record { opens = g.met.R.Receiver.opens; applies = g.met.R.Receiver.applies; decodes = g.met.R.Receiver.decodes; reads_back = g.met.R.Receiver.reads_back })

pub returns-clause-synchronous : goal.returns-clause-synchronous
returns-clause-synchronous g c =
    always-synchronous g.R.Receiver.meaning
    (record { opens = g.met.R.Receiver.opens; applies = g.met.R.Receiver.applies; decodes = g.met.R.Receiver.decodes; reads_back = g.met.R.Receiver.reads_back })

pub returns-clause-keep : goal.returns-clause-keep
returns-clause-keep g c =
    acted-keeps g.R.Receiver.meaning
    (record { opens = g.met.R.Receiver.opens; applies = g.met.R.Receiver.applies; decodes = g.met.R.Receiver.decodes; reads_back = g.met.R.Receiver.reads_back })

pub returns-clause-known : goal.returns-clause-known
returns-clause-known g c = members-know g.R.Receiver.meaning

pub returns-clause-stable : goal.returns-clause-stable
returns-clause-stable g c = stable-stays
