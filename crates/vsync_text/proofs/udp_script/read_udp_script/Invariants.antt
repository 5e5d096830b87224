use Rattle.std.proofs.Common.{◌≡◌, ◌+◌, ◌≤◌, length}
use Rattle.vsync_text.specs.UdpScript.{udp_script_of, udp_said, numbered}
use Rattle.vsync_text.specs.Texts.{and_then}
use Rattle.vsync_text.specs.Lines.{lines_of}
use Rattle.vsync_text.proofs.TextsRead.{going_on}
use Rattle.vsync_text.proofs.udp_script.read_udp_script.Given as goal

-- what was read goes on with the lines that are left
abbrev pub invariant-loop-rest : goal.invariant-loop-rest
invariant-loop-rest l =
    (udp_script_of l.text ≡ going_on udp_said (and_then numbered) l.lines.items (l.number + 1) (lines_of l.rest))
    × (l.number + length l.rest ≤ length l.text)

abbrev pub decreases-loop-rest : goal.decreases-loop-rest
decreases-loop-rest l = length l.rest
