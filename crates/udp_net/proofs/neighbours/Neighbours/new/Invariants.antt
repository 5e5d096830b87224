use Rattle.std.proofs.Common.{◌≡◌, map, take}
use Rattle.udp_net.specs.Neighbours.{untold, newborn}
use Rattle.udp_net.proofs.neighbours.Neighbours.new.Given as goal

-- one of each for each node so far
abbrev pub invariant-loop-node : goal.invariant-loop-node
invariant-loop-node l = record { told : l.told.items ≡ map (λ n. untold n.node) (take l.node-index l.nodes); ages : l.ages.items ≡ map (λ n. newborn n.node) (take l.node-index l.nodes) }
