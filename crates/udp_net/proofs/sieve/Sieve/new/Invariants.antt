use Rattle.std.proofs.Common.{◌≡◌, map, take}
use Rattle.udp_net.specs.Sieve.{unasked}
use Rattle.udp_net.proofs.sieve.Sieve.new.Given as goal

-- one for each node so far
abbrev pub invariant-loop-node : goal.invariant-loop-node
invariant-loop-node l = l.askers.items ≡ map (λ n. unasked n.node) (take l.node-index l.nodes)
