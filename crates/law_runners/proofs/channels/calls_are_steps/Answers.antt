use Rattle.law_runners.proofs.CallIsStep.{calls-are, lent-calls-are, creates-are, joins-are}
use Rattle.law_runners.proofs.WhatChannelsKnow.{channels-know}
use Rattle.law_runners.proofs.channels.calls_are_steps.Goals as goal

pub returns-clause-calls : goal.returns-clause-calls
returns-clause-calls g c = calls-are g.R.Receiver.meaning

pub returns-clause-lent : goal.returns-clause-lent
returns-clause-lent g c = lent-calls-are g.R.Receiver.meaning

pub returns-clause-creates : goal.returns-clause-creates
returns-clause-creates g c = creates-are g.R.Receiver.meaning

pub returns-clause-joins : goal.returns-clause-joins
returns-clause-joins g c = joins-are g.R.Receiver.meaning

pub returns-clause-known : goal.returns-clause-known
returns-clause-known g c = channels-know g.R.Receiver.meaning c.deployments_are_synchronous.ensures.known
