use Rattle.nak_stream.proofs.Rings.{IsGone}
use Rattle.nak_stream.proofs.window.advance.Given as goal

abbrev pub invariant-loop-gone : goal.invariant-loop-gone
invariant-loop-gone l = IsGone l.stable l.fn.slots l.gone l.slots
