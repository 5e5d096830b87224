use Rattle.vsync_text.specs.Writing.{lines_left, steps_left}
use Rattle.vsync_text.proofs.LinesWritten.{GoesOn}
use Rattle.vsync_text.proofs.run.write_through.Given as goal

abbrev pub invariant-loop-buffer : goal.invariant-loop-buffer
invariant-loop-buffer g l = GoesOn (g.W.Write.contents l.initial.writer) (g.W.Write.contents l.writer) l.buffer.items (lines_left l.rest) (lines_left l.initial.rest)

abbrev pub decreases-loop-buffer : goal.decreases-loop-buffer
decreases-loop-buffer g l = steps_left l.rest
