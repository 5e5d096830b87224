use Rattle.std.proofs.Common.{◌≡◌, drop}
use Rattle.std.specs.List.{list_all}
use Rattle.trace_drawing.specs.Promises.{is_plain}
use Rattle.trace_drawing.proofs.labels.is_plain_text.Given as goal

abbrev pub invariant-loop-byte : goal.invariant-loop-byte
invariant-loop-byte l = list_all is_plain l.bytes ≡ list_all is_plain (drop l.byte-index l.bytes)
