use Rattle.std.proofs.Common.{arith, ◌∙◌, ap}
use Rattle.sequencer.proofs.Slots.{one-pushed}
use Rattle.sequencer.proofs.queue.empty_slots.Goals as goal

pub loop-many-preserved : goal.loop-many-preserved
loop-many-preserved c =
    let i = c.loop-many.invariant in
    let more = one-pushed c.loop-many.many c.loop-many.slots _ i.empty i.many (omega (arith, i.room)) c.push_back-none.ensures.items in
    record { empty = more.0; many = more.1; room = ap (λ z. z.capacity) c.push_back-none.ensures.items ∙ i.room }
