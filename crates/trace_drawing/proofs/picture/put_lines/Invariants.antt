use Rattle.std.proofs.Common.{take}
use Rattle.std.specs.Prelude.{flat_map}
use Rattle.vsync_text.specs.Written.{Appends}
use Rattle.trace_drawing.specs.Picture.{line_group}
use Rattle.trace_drawing.proofs.picture.put_lines.Given as goal

abbrev pub invariant-loop-line : goal.invariant-loop-line
invariant-loop-line l = Appends (flat_map (line_group l.bottom) (take l.line-index l.lines)) l.initial.out l.out
