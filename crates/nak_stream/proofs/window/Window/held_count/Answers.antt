use Rattle.std.proofs.Common.{sym, subst, length, List, Option, ◌∙◌}
use Rattle.wire_values.specs.Values.{Entry}
use Rattle.nak_stream.proofs.Rings.{IsCounted, counted-none, counted-one, counted-other}
use Rattle.nak_stream.proofs.window.Window.held_count.Goals as goal

pub loop-slot-init : goal.loop-slot-init
loop-slot-init c = rw (← c.self.view_is) (counted-none _ _ _ c.self.inside.slots c.self.invariant (c.into_iter-slot-iterator.ensures.into_iter_gives ∙ c.iter-slot-items.ensures.rest))

pub loop-slot-preserved-then-is_some : goal.loop-slot-preserved-then-is_some
loop-slot-preserved-then-is_some c =
    counted-one c.loop-slot.count (length c.args.self.now.held) c.in-Some.slot.now _ (sym c.is_some.ensures ∙ c.if-is_some.true)
    (subst (λ (left : List (Option Entry)). IsCounted c.loop-slot.count left (length c.args.self.now.held)) c.in-Some.ensures.steps c.loop-slot.invariant)

pub loop-slot-preserved : goal.loop-slot-preserved
loop-slot-preserved c =
    counted-other c.loop-slot.count (length c.args.self.now.held) c.in-Some.slot.now _ (sym c.is_some.ensures ∙ c.if-is_some.false)
    (subst (λ (left : List (Option Entry)). IsCounted c.loop-slot.count left (length c.args.self.now.held)) c.in-Some.ensures.steps c.loop-slot.invariant)
