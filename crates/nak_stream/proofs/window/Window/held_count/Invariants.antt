use Rattle.std.proofs.Common.{length}
use Rattle.nak_stream.proofs.Rings.{IsCounted}
use Rattle.nak_stream.proofs.window.Window.held_count.Given as goal

abbrev pub invariant-loop-slot : goal.invariant-loop-slot
invariant-loop-slot l = IsCounted l.count l.slot-iterator (length l.fn.self.held)
