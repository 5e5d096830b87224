use Rattle.law_runners.proofs.ItemsOfCalls.{calls-add, runs-are}
use Rattle.law_runners.proofs.ProcessesMerged.{runners-are, runners-tell}
use Rattle.law_runners.proofs.WhatRunnersKnow.{runners-agree, runners-know, receivers-agree}
use Rattle.law_runners.proofs.HandsPlay.{played-seen, played-are}
use Rattle.law_runners.proofs.ChannelsTellNoStart.{starts-none}
use Rattle.law_runners.proofs.ChannelsTellOwn.{told-own}
use Rattle.law_runners.proofs.law.runners_are_synchronous.Goals as goal

pub returns-clause-calls : goal.returns-clause-calls
returns-clause-calls g c = calls-add g.N.Net.log g.N.Net.failed g.R.Receiver.meaning

pub returns-clause-runs : goal.returns-clause-runs
returns-clause-runs g c = runs-are g.N.Net.log g.N.Net.failed g.R.Receiver.meaning

pub returns-clause-merged : goal.returns-clause-merged
returns-clause-merged g c = runners-are g.R.Receiver.meaning c.deployments_are_synchronous.ensures.histories

pub returns-clause-told : goal.returns-clause-told
returns-clause-told g c = runners-tell g.R.Receiver.meaning c.deployments_are_synchronous.ensures.told

pub returns-clause-agreeing : goal.returns-clause-agreeing
returns-clause-agreeing g c = runners-agree g.R.Receiver.meaning c.deployments_are_synchronous.ensures.agreeing

pub returns-clause-known : goal.returns-clause-known
returns-clause-known g c = runners-know g.R.Receiver.meaning c.deployments_are_synchronous.ensures.known

pub returns-clause-level : goal.returns-clause-level
returns-clause-level g c = receivers-agree g.R.Receiver.meaning (returns-clause-known g c) (returns-clause-agreeing g c)

pub returns-clause-seen : goal.returns-clause-seen
returns-clause-seen g c =
    played-seen g.N.Net.log g.N.Net.failed g.R.Receiver.meaning (returns-clause-merged g c) (returns-clause-agreeing g c) (returns-clause-known g c)

pub returns-clause-played : goal.returns-clause-played
returns-clause-played g c = played-are g.N.Net.log g.N.Net.failed g.R.Receiver.meaning (returns-clause-seen g c)

pub returns-clause-starts : goal.returns-clause-starts
returns-clause-starts g c = starts-none g.N.Net.log g.N.Net.failed g.R.Receiver.meaning

pub returns-clause-own : goal.returns-clause-own
returns-clause-own g c = told-own g.N.Net.log g.N.Net.failed g.R.Receiver.meaning
