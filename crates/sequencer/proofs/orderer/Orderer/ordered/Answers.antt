use Rattle.std.proofs.Common.{rules}
use Rattle.sequencer.proofs.orderer.Orderer.ordered.Goals as goal

pub returns-clause-ordered : goal.returns-clause-ordered
returns-clause-ordered c = search rules

pub returns-clause-last : goal.returns-clause-last
returns-clause-last c = search rules
