use Rattle.std.proofs.Common.{◌≡◌, [], filter_map, take}
use Rattle.node_finding.specs.Ranks.{offer_in}
use Rattle.node_finding.proofs.ranks.Moment.told_of.Given as goal

-- none of those so far tells of the view
abbrev pub invariant-loop-node : goal.invariant-loop-node
invariant-loop-node l = filter_map (offer_in l.self l.view) (take l.node-index l.nodes) ≡ []
