use Rattle.std.proofs.Common.{◌≡◌, ℕ, List, length}
use Rattle.udp_runs.specs.Carrying.{RoundOf}
use Rattle.udp_runs.specs.Nodes.{GoesOn}
use Rattle.udp_runs.proofs.CallsAmongOthers.{okay}
use Rattle.udp_runs.proofs.nodes.Nodes.round.Given as goal

-- so many had their round
abbrev pub invariant-loop-index : goal.invariant-loop-index
invariant-loop-index g l =
    (length l.self.node_states.items ≡ length l.fn.self.node_states.items)
    × ((group : List ℕ) → GoesOn g.N.Net.log g.N.Net.failed g.C.Receiver.meaning group
    (RoundOf g.N.Net.log g.N.Net.failed g.C.Receiver.meaning l.fn.self.node_states.items l.index l.self.node_states.items) l.fn.self.node_states.items l.self.node_states.items
    (g.M.NodeMachine.gone l.fn.machine) (g.M.NodeMachine.gone l.machine) l.fn.text.items l.text.items (okay (Unit {0}) (Unit {0}) tt))
