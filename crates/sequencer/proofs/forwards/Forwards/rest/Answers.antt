use Rattle.std.proofs.Common.{rules}
use Rattle.sequencer.proofs.forwards.Forwards.rest.Goals as goal

pub returns-clause-rest : goal.returns-clause-rest
returns-clause-rest c = search rules

pub returns-clause-kept : goal.returns-clause-kept
returns-clause-kept c = search rules
