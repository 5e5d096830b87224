use Rattle.std.proofs.Common.{◌≡◌, map, take}
use Rattle.udp_runs.specs.Carrying.{place_of, node_of}
use Rattle.udp_runs.specs.Nodes.{AreUnused}
use Rattle.udp_runs.proofs.nodes.Nodes.new.Given as goal

-- so many were gathered, and none was used yet
abbrev pub invariant-loop-place : goal.invariant-loop-place
invariant-loop-place g l = AreUnused l.node_states.items × (map node_of l.node_states.items ≡ map place_of (take l.place-index l.place-items))
