use Rattle.std.proofs.Common.{◌-◌, Some, not, refl, sym}
use Rattle.std.specs.Prelude.{nat_lt}
use Rattle.address.specs.declared.limits.TheConstants.{WINDOW}
use Rattle.wire_values.specs.declared.packet.Body.TheVariants as bodies
use Rattle.wire_values.specs.Posted.{packet}
use Rattle.step_output.proofs.CalmAdds.{calm-nothing}
use Rattle.member_rules.proofs.MembersAreOpen.{there-is, orderly-in, ordered-by, nothing-did}
use Rattle.member_rules.proofs.PacketsHeard.{heard-in, heard-member_state, from-in, other-did}
use Rattle.member_rules.proofs.MessagesAreCalm.{takes-calm}
use Rattle.member_rules.proofs.NumbersNotHeld.{order-orderly}
use Rattle.member_rules.proofs.taking.on_order.Goals as goal

pub returns-then-not-takes_order-clause-hears : goal.returns-then-not-takes_order-clause-hears
returns-then-not-takes_order-clause-hears g c = record { member_state = c.requires.member_state; ordered = c.requires.ordered; does = rw (sym c.if-not-takes_order.ensures) (refl, refl); did = nothing-did g.R.Receiver.meaning _ _ _ _ _; calm = calm-nothing _ _ }

pub order-requires : goal.order-requires
order-requires g c =
    record { other = (orderly-in _ _ _ c.requires.ordered (there-is _ _ _ c.in-Some-Follower.is c.in-Some-Follower.field-0-is)).0 }

pub returns-clause-hears : goal.returns-clause-hears
returns-clause-hears g c =
    let there = there-is _ _ _ c.in-Some-Follower.is c.in-Some-Follower.field-0-is in
    let heard = heard-in _ _ _ _ _ there (sym c.if-not-takes_order.ensures) in
    let does = c.in_ok-order-in-Some-Follower.ensures in
    record {
      member_state = heard-member_state _ _ _ _ _ _ _ _ c.requires.member_state heard there does.goes.1;
      ordered = ordered-by _ _ (order-orderly g.R.Receiver.meaning c.args.who.now.address c.args.who.now.group _ _ c.in-Some-Follower.follower _ _ _ _ _ does.takes does.goes.1 (orderly-in _ _ _ c.requires.ordered there));
      does = rw (sym c.if-not-takes_order.ensures, there) (refl, does.takes);
      did = other-did g.R.Receiver.meaning (λ q i. Some (packet q (bodies.Order i c.args.place c.args.entry.now) c.args.who.now.address)) _ _ _ _ _ _ _ _ _ _ c.requires.member_state heard there
          (from-in _ _ c.args.member_state.now c.in-Some-Follower.follower (λ m. not (nat_lt m.window.delivered (c.args.place - WINDOW))) there (sym c.if-not-takes_order.ensures)) does.goes;
      calm = takes-calm g.R.Receiver.meaning _ _ _ _ _ _ _ _ _ _ does.takes does.few;
    }
