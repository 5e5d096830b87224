use Rattle.std.proofs.Common.{◌≡◌, ◌++◌, map, take}
use Rattle.std.specs.List.{concat}
use Rattle.udp_runs.specs.Nodes.{processes_in}
use Rattle.udp_runs.specs.Processes.{state_text}
use Rattle.udp_runs.proofs.nodes.Nodes.append_states.Given as goal

-- the states of so many were appended
abbrev pub invariant-loop-index : goal.invariant-loop-index
invariant-loop-index g l =
    (l.text.items ≡ l.fn.text.items ++ concat (map (state_text g.C.Application.line_of) (processes_in (take l.index l.fn.self.node_states.items))))
    × (l.self.node_states.items ≡ l.fn.self.node_states.items)
