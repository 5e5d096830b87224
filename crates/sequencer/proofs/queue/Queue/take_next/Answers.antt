use Rattle.std.proofs.Common.{◌+◌, ◌≤◌, sym, ap, ◌∙◌, arith}
use Rattle.address.specs.declared.limits.TheConstants.{GREATEST_NUMBER}
use Rattle.sequencer.specs.Queues.{next_of, served}
use Rattle.sequencer.proofs.Slots.{first-small, next-none, next-ring, next-served}
use Rattle.sequencer.proofs.queue.Queue.take_next.Goals as goal

pub returns-then-not-has_first-clause-answer : goal.returns-then-not-has_first-clause-answer
returns-then-not-has_first-clause-answer c =
    sym (next-none _ _ c.self.inside.slots (sym c.has_first.ensures ∙ c.if-not-has_first.true)) ∙ ap next_of c.self.view_is

pub overflow_add-self-inside : goal.overflow_add-self-inside
overflow_add-self-inside c =
    let small : c.self.inside.ordered + 1 ≤ GREATEST_NUMBER = first-small _ _ c.self.invariant (sym c.has_first.ensures ∙ c.if-not-has_first.false) in
    omega (arith, small)

pub unreachable-requires : goal.unreachable-requires
unreachable-requires c =
    let small : c.self.inside.ordered + 1 ≤ GREATEST_NUMBER = first-small _ _ c.self.invariant (sym c.has_first.ensures ∙ c.if-not-has_first.false) in
    c.in_default.ensures (omega arith, small)

pub invariant_of-self : goal.invariant_of-self
invariant_of-self c =
    next-ring _ c.take_first-payload.result _ _ c.self.invariant (record { at = c.take_first-payload.ensures.payload; after = c.take_first-payload.ensures.after })

pub returns-clause-after : goal.returns-clause-after
returns-clause-after c =
    next-served _ _ c.take_first-payload.result _ _ (record { at = c.take_first-payload.ensures.payload; after = c.take_first-payload.ensures.after }) ∙ ap served c.self.view_is
