use Rattle.node_finding.proofs.RanksAreOrdered.{antisymmetric, loose, strict, total, with_history}
use Rattle.node_finding.proofs.ranks.ranks_are_ordered.Goals as goal

pub returns-clause-strict : goal.returns-clause-strict
returns-clause-strict c = strict

pub returns-clause-antisymmetric : goal.returns-clause-antisymmetric
returns-clause-antisymmetric c = antisymmetric

pub returns-clause-total : goal.returns-clause-total
returns-clause-total c = total

pub returns-clause-transitive : goal.returns-clause-transitive
returns-clause-transitive c = loose

pub returns-clause-history : goal.returns-clause-history
returns-clause-history c = with_history
