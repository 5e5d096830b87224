use Rattle.std.proofs.Common.{◌≡◌, ◌+◌, length}
use Rattle.vsync_text.specs.Pieces.{text_from}
use Rattle.vsync_text.proofs.read_text.read_lines.Given as goal

-- what was read goes on with what is left
abbrev pub invariant-loop-rest : goal.invariant-loop-rest
invariant-loop-rest l = text_from l.fn.trace.events (l.before + 1) l.text ≡ text_from l.trace.events (l.number + 1) l.rest

abbrev pub decreases-loop-rest : goal.decreases-loop-rest
decreases-loop-rest l = length l.rest
