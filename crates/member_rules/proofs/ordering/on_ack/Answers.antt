use Rattle.std.proofs.Common.{Some, refl, sym}
use Rattle.wire_values.specs.declared.packet.Body.TheVariants as bodies
use Rattle.wire_values.specs.Posted.{packet}
use Rattle.step_output.proofs.CalmAdds.{calm-nothing}
use Rattle.member_rules.proofs.MembersAreOpen.{there-is, orderly-in, ordered-by, nothing-did}
use Rattle.member_rules.proofs.PacketsHeard.{heard-in, heard-member_state, heard-did}
use Rattle.member_rules.proofs.MessagesAreCalm.{ordering-calm}
use Rattle.member_rules.proofs.ordering.on_ack.Goals as goal

pub returns-then-not-takes_ack-clause-hears : goal.returns-then-not-takes_ack-clause-hears
returns-then-not-takes_ack-clause-hears g c = record { member_state = c.requires.member_state; ordered = c.requires.ordered; does = rw (sym c.get-count.ensures.value, sym c.if-not-takes_ack.ensures) (refl, refl); did = nothing-did g.R.Receiver.meaning _ _ _ _ _; calm = calm-nothing _ _ }

pub ack-requires-clause-coordinator : goal.ack-requires-clause-coordinator
ack-requires-clause-coordinator g c =
    (orderly-in _ _ _ c.requires.ordered (there-is _ _ _ c.in-Some-Coordinator.is c.in-Some-Coordinator.field-0-is)).0

pub ack-requires-clause-settled : goal.ack-requires-clause-settled
ack-requires-clause-settled g c =
    (orderly-in _ _ _ c.requires.ordered (there-is _ _ _ c.in-Some-Coordinator.is c.in-Some-Coordinator.field-0-is)).1

pub returns-clause-hears : goal.returns-clause-hears
returns-clause-hears g c =
    let there = there-is _ _ _ c.in-Some-Coordinator.is c.in-Some-Coordinator.field-0-is in
    let heard = heard-in _ _ _ _ _ there (sym c.if-not-takes_ack.ensures) in
    let does = c.in_ok-ack-in-Some-Coordinator.ensures in
    let same = c.get-count.ensures.value in
    record {
      member_state = heard-member_state _ _ _ _ _ _ _ _ c.requires.member_state heard there does.goes.view;
      ordered = ordered-by _ _ (does.goes.coordinator, does.settled, does.orders.1);
      does = rw (sym same, sym c.if-not-takes_ack.ensures, there) (refl, does.orders);
      did = rw (sym same)
          (heard-did g.R.Receiver.meaning (λ i. Some (packet c.args.source.now (bodies.Ack i c.get-count.result) c.args.who.now.address)) _ _ _ _ _ _ _ _ _ _
          c.requires.member_state heard there does.goes.view does.goes.goes);
      calm = ordering-calm g.R.Receiver.meaning _ _ _ _ _ _ _ _ does.orders.0 does.few;
    }
