use Rattle.std.proofs.Common.{ℕ, List}
use Rattle.udp_runs.specs.Carrying.{RoundsOf}
use Rattle.udp_runs.specs.Nodes.{GoesOn}
use Rattle.udp_runs.proofs.CallsAmongOthers.{okay}
use Rattle.udp_runs.proofs.nodes.Nodes.rounds.Given as goal

-- there were so many rounds
abbrev pub invariant-loop-done : goal.invariant-loop-done
invariant-loop-done g l =
    (group : List ℕ) → GoesOn g.N.Net.log g.N.Net.failed g.C.Receiver.meaning group
    (RoundsOf g.N.Net.log g.N.Net.failed g.C.Receiver.meaning l.fn.self.node_states.items l.done l.self.node_states.items) l.fn.self.node_states.items l.self.node_states.items
    (g.M.NodeMachine.gone l.fn.machine) (g.M.NodeMachine.gone l.machine) l.fn.text.items l.text.items (okay (Unit {0}) (Unit {0}) tt)
