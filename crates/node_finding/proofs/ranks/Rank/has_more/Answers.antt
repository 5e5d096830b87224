use Rattle.std.proofs.Common.{rules}
use Rattle.node_finding.proofs.ranks.Rank.has_more.Goals as goal

pub returns-then-self-other : goal.returns-then-self-other
returns-then-self-other c = search rules
