use Rattle.std.proofs.Common.{◌≡◌, false, take}
use Rattle.std.specs.List.{list_any}
use Rattle.node_finding.specs.Ranks.{is_of_greater}
use Rattle.node_finding.proofs.ranks.Moment.hears_of_greater.Given as goal

-- none of those so far says so
abbrev pub invariant-loop-node : goal.invariant-loop-node
invariant-loop-node l = list_any (is_of_greater l.self l.than l.nodes) (take l.node-index l.nodes) ≡ false
