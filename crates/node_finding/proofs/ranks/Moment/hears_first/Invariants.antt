use Rattle.std.proofs.Common.{◌≡◌, false, take}
use Rattle.std.specs.List.{list_any}
use Rattle.node_finding.specs.Ranks.{speaks_first}
use Rattle.node_finding.proofs.ranks.Moment.hears_first.Given as goal

-- no fresh word of those so far is of version 1
abbrev pub invariant-loop-node : goal.invariant-loop-node
invariant-loop-node l = list_any (speaks_first l.self) (take l.node-index l.nodes) ≡ false
