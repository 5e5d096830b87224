use Rattle.std.proofs.Common.{rules}
use Rattle.node_finding.proofs.finding.Finder.step_outside.Goals as goal

pub returns-in-Some : goal.returns-in-Some
returns-in-Some c = search rules
