use Rattle.std.proofs.Common.{◌≡◌, [], take}
use Rattle.udp_runs.specs.Carrying.{AreListed}
use Rattle.udp_runs.specs.Nodes.{AreUnused}
use Rattle.udp_runs.proofs.ScriptsPlay.{SoFar}
use Rattle.udp_runs.proofs.script.play_lines.Given as goal

-- so many lines were carried out, and what happened by them was written
abbrev pub invariant-loop-line : goal.invariant-loop-line
invariant-loop-line g l =
    AreUnused l.fn.nodes.node_states.items → AreListed l.fn.settings.nodes l.fn.nodes.node_states.items → l.fn.text.items ≡ []
    → SoFar g.N.Net.log g.N.Net.failed g.C.Receiver.meaning g.C.Application.line_of l.fn.settings.group l.fn.settings.nodes (take l.line-index l.fn.lines)
    (g.M.NodeMachine.gone l.fn.machine) (g.M.NodeMachine.gone l.machine) (g.W.Write.contents l.fn.writer) (g.W.Write.contents l.writer) l.nodes.node_states.items l.text.items
