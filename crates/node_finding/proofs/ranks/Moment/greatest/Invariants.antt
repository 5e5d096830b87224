use Rattle.std.proofs.Common.{take}
use Rattle.node_finding.specs.Ranks.{IsGreatest, told}
use Rattle.node_finding.proofs.ranks.Moment.greatest.Given as goal

-- it is the greatest of which those so far tell
abbrev pub invariant-loop-node : goal.invariant-loop-node
invariant-loop-node l = IsGreatest (told l.self l.but (take l.node-index l.nodes)) l.best
