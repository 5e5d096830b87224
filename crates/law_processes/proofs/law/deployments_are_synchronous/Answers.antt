use Rattle.law_acts.proofs.KeepBySteps as steps
use Rattle.law_acts.proofs.KnownOfMembers.{stable-stays}
use Rattle.law_processes.proofs.KeepBySteps.{are-synchronous}
use Rattle.law_processes.proofs.ProcessesInOrder.{merged-are}
use Rattle.law_processes.proofs.MembersTell.{tell-all}
use Rattle.law_processes.proofs.ProcessesKnow.{copies-agree, members-know, processes-agree, are-never-closed}
use Rattle.law_processes.proofs.MessagesCarried.{coordinators-keep, deliver-short}
use Rattle.law_processes.proofs.law.deployments_are_synchronous.Goals as goal

pub returns-clause-histories : goal.returns-clause-histories
returns-clause-histories g c =
    are-synchronous g.R.Receiver.meaning
    (record { opens = g.met.R.Receiver.opens; applies = g.met.R.Receiver.applies; decodes = g.met.R.Receiver.decodes; reads_back = g.met.R.Receiver.reads_back })

pub returns-clause-processes : goal.returns-clause-processes
returns-clause-processes g c =
    merged-are g.R.Receiver.meaning
    (record { opens = g.met.R.Receiver.opens; applies = g.met.R.Receiver.applies; decodes = g.met.R.Receiver.decodes; reads_back = g.met.R.Receiver.reads_back })

pub returns-clause-told : goal.returns-clause-told
returns-clause-told g c = tell-all g.R.Receiver.meaning

pub returns-clause-agreeing : goal.returns-clause-agreeing
returns-clause-agreeing g c =
    copies-agree g.R.Receiver.meaning c.replicas_agree.ensures
    (are-synchronous g.R.Receiver.meaning
    (record { opens = g.met.R.Receiver.opens; applies = g.met.R.Receiver.applies; decodes = g.met.R.Receiver.decodes; reads_back = g.met.R.Receiver.reads_back }))

pub returns-clause-known : goal.returns-clause-known
returns-clause-known g c =
    members-know g.R.Receiver.meaning
    (record { opens = g.met.R.Receiver.opens; applies = g.met.R.Receiver.applies; decodes = g.met.R.Receiver.decodes; reads_back = g.met.R.Receiver.reads_back })

pub returns-clause-level : goal.returns-clause-level
returns-clause-level g c =
    let laws : steps.Laws g.R.Receiver.meaning = record { opens = g.met.R.Receiver.opens; applies = g.met.R.Receiver.applies; decodes = g.met.R.Receiver.decodes; reads_back = g.met.R.Receiver.reads_back } in
    processes-agree g.R.Receiver.meaning laws (copies-agree g.R.Receiver.meaning c.replicas_agree.ensures (are-synchronous g.R.Receiver.meaning laws))

pub returns-clause-stable : goal.returns-clause-stable
returns-clause-stable g c = stable-stays

pub returns-clause-open : goal.returns-clause-open
returns-clause-open g c =
    are-never-closed g.R.Receiver.meaning
    (record { opens = g.met.R.Receiver.opens; applies = g.met.R.Receiver.applies; decodes = g.met.R.Receiver.decodes; reads_back = g.met.R.Receiver.reads_back })

pub returns-clause-short : goal.returns-clause-short
returns-clause-short g c =
    deliver-short g.R.Receiver.meaning
    (record { opens = g.met.R.Receiver.opens; applies = g.met.R.Receiver.applies; decodes = g.met.R.Receiver.decodes; reads_back = g.met.R.Receiver.reads_back })

pub returns-clause-own : goal.returns-clause-own
returns-clause-own g c = coordinators-keep g.R.Receiver.meaning
