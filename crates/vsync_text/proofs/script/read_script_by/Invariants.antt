use Rattle.std.proofs.Common.{◌≡◌, ◌+◌, ◌≤◌, length}
use Rattle.vsync_text.specs.Script.{script_by, event_in_line, with_event}
use Rattle.vsync_text.specs.Lines.{lines_of}
use Rattle.vsync_text.proofs.TextsRead.{going_on}
use Rattle.vsync_text.proofs.script.read_script_by.Given as goal

-- what was read goes on with the lines that are left
abbrev pub invariant-loop-rest : goal.invariant-loop-rest
invariant-loop-rest g l =
    (script_by g.P.Payloads.payload_of l.text ≡ going_on (event_in_line g.P.Payloads.payload_of) with_event l.script (l.number + 1) (lines_of l.rest))
    × (l.number + length l.rest ≤ length l.text)

abbrev pub decreases-loop-rest : goal.decreases-loop-rest
decreases-loop-rest g l = length l.rest
