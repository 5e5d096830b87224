use Rattle.std.proofs.Common.{◌≡◌, ◌≤◌, take}
use Rattle.node_finding.specs.Ranks.{count_in}
use Rattle.node_finding.proofs.ranks.Moment.count_in.Given as goal

-- those so far were counted
abbrev pub invariant-loop-node : goal.invariant-loop-node
invariant-loop-node l = (l.count ≡ count_in l.self l.view (take l.node-index l.nodes)) × (l.count ≤ l.node-index)
