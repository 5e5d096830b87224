use Rattle.std.proofs.Common.{◌≡◌, ◌≤◌, ℕ, map, take, length, slice_get}
use Rattle.udp_runs.specs.Machines.{GivesBack}
use Rattle.udp_runs.specs.Nodes.{processes_in}
use Rattle.udp_runs.specs.Processes.{net_of}
use Rattle.udp_runs.proofs.nodes.Nodes.close.Given as goal

-- the nets of so many were given back, and the others are as they were
abbrev pub invariant-loop-index : goal.invariant-loop-index
invariant-loop-index g l =
    GivesBack (g.M.NodeMachine.gone l.fn.machine) (map net_of (processes_in (take l.index l.fn.self.node_states.items))) (g.M.NodeMachine.gone l.machine)
    × (length l.self.node_states.items ≡ length l.fn.self.node_states.items)
    × ((k : ℕ) → l.index ≤ k → slice_get l.self.node_states.items k ≡ slice_get l.fn.self.node_states.items k)
