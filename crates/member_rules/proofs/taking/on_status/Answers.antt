use Rattle.std.proofs.Common.{Some, refl, sym}
use Rattle.std.proofs.lemmas.Result.{on_ok_weaker}
use Rattle.wire_values.specs.declared.packet.Body.TheVariants as bodies
use Rattle.wire_values.specs.Posted.{packet}
use Rattle.step_output.proofs.CalmAdds.{calm-nothing}
use Rattle.traffic.proofs.ActsOfAnswers.{status-goes}
use Rattle.member_rules.specs.Heard.{is_near}
use Rattle.member_rules.proofs.MembersAreOpen.{there-is, orderly-in, ordered-by, nothing-did}
use Rattle.member_rules.proofs.PacketsHeard.{heard-in, heard-member_state, from-in, other-did}
use Rattle.member_rules.proofs.MessagesAreCalm.{asks-calm}
use Rattle.member_rules.proofs.NumbersNotHeld.{status-orderly}
use Rattle.member_rules.proofs.taking.on_status.Goals as goal

pub returns-then-not-takes_status-clause-hears : goal.returns-then-not-takes_status-clause-hears
returns-then-not-takes_status-clause-hears g c = record { member_state = c.requires.member_state; ordered = c.requires.ordered; does = rw (sym c.if-not-takes_status.ensures) (refl, refl); did = nothing-did g.R.Receiver.meaning _ _ _ _ _; calm = calm-nothing _ _ }

pub returns-clause-hears : goal.returns-clause-hears
returns-clause-hears g c =
    let there = there-is _ _ _ c.in-Some-Follower.is c.in-Some-Follower.field-0-is in
    let heard = heard-in _ _ _ _ _ there (sym c.if-not-takes_status.ensures) in
    on_ok_weaker c.status.result (λ does.
    let goes = status-goes g.R.Receiver.meaning c.args.who.now.address c.args.who.now.group c.args.progress c.in-Some-Follower.follower c.args.member_state.now.receiver
    c.args.out.now c.status.new.self c.status.new.out does in
    record {
      member_state = heard-member_state _ _ _ _ _ _ _ _ c.requires.member_state heard there goes.1;
      ordered = ordered-by _ _ (status-orderly c.args.who.now.address c.args.who.now.group c.args.progress c.in-Some-Follower.follower c.args.out.now c.status.new.self c.status.new.out does
          (orderly-in _ _ _ c.requires.ordered there));
      does = rw (sym c.if-not-takes_status.ensures, there) (refl, (does, refl));
      did = other-did g.R.Receiver.meaning (λ q i. Some (packet q (bodies.Status i c.args.progress) c.args.who.now.address)) _ _ _ _ _ _ _ _ _ _ c.requires.member_state heard there
          (from-in _ _ c.args.member_state.now c.in-Some-Follower.follower (is_near c.args.progress) there (sym c.if-not-takes_status.ensures)) goes;
      calm = asks-calm _ _ _ _ _ _ does.1;
    }) c.status.ensures
