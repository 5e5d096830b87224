use Rattle.std.proofs.Common.{◌≡◌}
use Rattle.udp_runs.specs.Nodes.{IsFirst}
use Rattle.udp_runs.proofs.nodes.Nodes.index_of.Given as goal

-- none of those before has the number
abbrev pub invariant-loop-index : goal.invariant-loop-index
invariant-loop-index g l = IsFirst l.fn.node l.index l.fn.self.node_states.items × (l.node ≡ l.fn.node) × (l.self ≡ l.fn.self)
