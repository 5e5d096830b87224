use Rattle.std.proofs.Common.{rules}
use Rattle.sequencer.proofs.orderer.Orderer.ready.Goals as goal

pub invariant_of-self : goal.invariant_of-self
invariant_of-self c = let h' = c.if-not-may_order.ensures in search rules

pub returns-clause-answer : goal.returns-clause-answer
returns-clause-answer c = search rules

pub returns-in_err-entry-clause-answer : goal.returns-in_err-entry-clause-answer
returns-in_err-entry-clause-answer c = search rules

pub returns-in_err-entry-clause-after : goal.returns-in_err-entry-clause-after
returns-in_err-entry-clause-after c = search rules
