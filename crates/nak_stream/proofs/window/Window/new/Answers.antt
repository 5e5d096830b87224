use Rattle.nak_stream.proofs.Rings.{new-ring}
use Rattle.nak_stream.proofs.window.Window.new.Goals as goal

pub invariant_of-result : goal.invariant_of-result
invariant_of-result c = new-ring _ c.in_ok-empty_slots.ensures.full c.in_ok-empty_slots.ensures.empty
