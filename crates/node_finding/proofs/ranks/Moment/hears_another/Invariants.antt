use Rattle.std.proofs.Common.{◌≡◌, false, take}
use Rattle.std.specs.List.{list_any}
use Rattle.node_finding.specs.Ranks.{is_awaited}
use Rattle.node_finding.proofs.ranks.Moment.hears_another.Given as goal

-- it waits for none of those so far
abbrev pub invariant-loop-node : goal.invariant-loop-node
invariant-loop-node l = list_any (is_awaited l.self) (take l.node-index l.nodes) ≡ false
