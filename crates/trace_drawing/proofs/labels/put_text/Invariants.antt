use Rattle.std.proofs.Common.{take}
use Rattle.vsync_text.specs.Written.{Appends}
use Rattle.trace_drawing.specs.Labels.{escaped}
use Rattle.trace_drawing.proofs.labels.put_text.Given as goal

abbrev pub invariant-loop-byte : goal.invariant-loop-byte
invariant-loop-byte l = Appends (escaped (take l.byte-index l.bytes)) l.initial.out l.out
