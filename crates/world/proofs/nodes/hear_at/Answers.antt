use Rattle.std.proofs.Common.{rules}
use Rattle.world.proofs.nodes.hear_at.Goals as goal

pub returns-in-Some-clause-hears : goal.returns-in-Some-clause-hears
returns-in-Some-clause-hears g c = search rules

pub returns-in-Some-clause-others : goal.returns-in-Some-clause-others
returns-in-Some-clause-others g c = search rules

pub returns-in-None-clause-hears : goal.returns-in-None-clause-hears
returns-in-None-clause-hears g c = search rules

pub returns-in-None-clause-others : goal.returns-in-None-clause-others
returns-in-None-clause-others g c = search rules
