use Rattle.std.proofs.Common.{rules}
use Rattle.sequencer.proofs.orderer.Orderer.new.Goals as goal

pub returns-in_err-idle_queues : goal.returns-in_err-idle_queues
returns-in_err-idle_queues c = search rules

pub invariant_of-result : goal.invariant_of-result
invariant_of-result c = search rules

pub returns : goal.returns
returns c = search rules
