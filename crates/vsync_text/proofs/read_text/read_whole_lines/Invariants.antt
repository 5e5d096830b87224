use Rattle.std.proofs.Common.{◌≡◌, ℕ, ◌+◌, List, ◌++◌, length}
use Rattle.vsync_text.specs.Pieces.{text_from}
use Rattle.vsync_text.proofs.read_text.read_whole_lines.Given as goal

-- whatever stands behind the text, what was read goes on with what is left
abbrev pub invariant-loop-line : goal.invariant-loop-line
invariant-loop-line l =
    (more : List ℕ) → text_from l.fn.trace.events (l.fn.number + 1) (l.text ++ more) ≡ text_from l.trace.events (l.number + 1) (l.rest ++ more)

abbrev pub decreases-loop-line : goal.decreases-loop-line
decreases-loop-line l = length l.rest
