use Rattle.std.proofs.Common.{sym}
use Rattle.std.specs.Ordering.{nat_cmp}
use Rattle.std.specs.BTreeMap.{get}
use Rattle.world.specs.NodeStates.{node_states_in}
use Rattle.world.proofs.StepIsWorldStep.{steps-so, stepped-so}
use Rattle.world.proofs.EventsInTurn.{reached-on, reached-same}
use Rattle.world.proofs.World.step.Goals as goal

-- nothing was carried out
pub invariant_of-self-in_err-answer : goal.invariant_of-self-in_err-answer
invariant_of-self-in_err-answer g c =
    rw (c.reserve_step.ensures.events, c.reserve_step.ensures.replies, c.in_err-answer.ensures.err_pool, c.in_err-answer.ensures.err_trace, c.reserve_step.ensures.trace)
    (reached-same g.R.Receiver.meaning _ (node_states_in (get nat_cmp c.self.inside.node_states)) (node_states_in (get nat_cmp c.carry.new.node_states)) c.in_err-answer.ensures.err c.self.invariant)

-- the event is carried out
pub invariant_of-self-2 : goal.invariant_of-self-2
invariant_of-self-2 g c =
    rw (c.push_reserved-2.ensures.items, c.reserve_step.ensures.events, c.push_reserved.ensures.items, c.reserve_step.ensures.replies, c.events-place.ensures.value)
    (reached-on g.R.Receiver.meaning _ _ c.in_ok-event.event c.self.invariant
    (steps-so g.R.Receiver.meaning (node_states_in (get nat_cmp c.self.inside.node_states)) _ _ c.in_ok-event.event
    c.in_ok-answer.answer _ c.carry.new.trace.events c.carry.new.pool c.reserve_step.ensures.trace c.in_ok-answer.ensures.ok))

-- and that is a step of the world
pub returns-clause-ok : goal.returns-clause-ok
returns-clause-ok g c =
    rw (sym c.self.view_is, sym c.in_ok-event.ensures, c.push_reserved-2.ensures.items, c.reserve_step.ensures.events, c.push_reserved.ensures.items, c.reserve_step.ensures.replies, c.events-place.ensures.value)
    (stepped-so g.R.Receiver.meaning (node_states_in (get nat_cmp c.self.inside.node_states)) _ _ c.in_ok-event.event
    c.in_ok-answer.answer _ c.carry.new.trace.events c.carry.new.pool c.reserve_step.ensures.trace c.in_ok-answer.ensures.ok)
