use Rattle.std.proofs.Common.{◌≡◌, drop}
use Rattle.trace_drawing.specs.Labels.{is_text}
use Rattle.trace_drawing.proofs.labels.is_text.Given as goal

abbrev pub invariant-loop-byte : goal.invariant-loop-byte
invariant-loop-byte l = is_text l.bytes ≡ is_text (drop l.byte-index l.bytes)
