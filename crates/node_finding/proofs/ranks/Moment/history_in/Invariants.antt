use Rattle.std.proofs.Common.{◌≡◌, take}
use Rattle.node_finding.specs.Ranks.{history_in}
use Rattle.node_finding.proofs.ranks.Moment.history_in.Given as goal

-- it is the latest of which those so far tell
abbrev pub invariant-loop-node : goal.invariant-loop-node
invariant-loop-node l = l.history ≡ history_in l.self l.view (take l.node-index l.nodes)
