use Rattle.std.proofs.Common.{Some, refl, sym, arith}
use Rattle.std.proofs.lemmas.Result.{on_ok_weaker}
use Rattle.wire_values.specs.declared.packet.Body.TheVariants as bodies
use Rattle.wire_values.specs.Posted.{packet}
use Rattle.traffic.proofs.ActsOfAnswers.{nak-goes}
use Rattle.step_output.proofs.CalmAdds.{calm-grown, calm-nothing}
use Rattle.member_rules.proofs.MembersAreOpen.{there-is, orderly-in, nothing-did}
use Rattle.member_rules.proofs.PacketsHeard.{heard-in, heard-same}
use Rattle.member_rules.proofs.ordering.on_nak.Goals as goal

pub returns-then-not-takes_forward-clause-hears : goal.returns-then-not-takes_forward-clause-hears
returns-then-not-takes_forward-clause-hears g c = record { member_state = c.requires.member_state; ordered = c.requires.ordered; does = rw (sym c.if-not-takes_forward.ensures) (refl, refl); did = nothing-did g.R.Receiver.meaning _ _ _ _ _; calm = calm-nothing _ _ }

pub returns-clause-hears : goal.returns-clause-hears
returns-clause-hears g c =
    let there = there-is _ _ _ c.in-Some.is c.in-Coordinator.is in
    let heard = heard-in _ _ _ _ _ there (sym c.if-not-takes_forward.ensures) in
    on_ok_weaker c.nak.result (λ answers. record {
      member_state = c.requires.member_state;
      ordered = c.requires.ordered;
      does = rw (sym c.if-not-takes_forward.ensures, there) (refl, answers);
      did = heard-same g.R.Receiver.meaning (λ i. Some (packet c.args.source.now (bodies.Nak i c.args.missing) c.args.who.now.address)) _ _ _ _ _ _ _ _ c.requires.member_state heard there
          (nak-goes g.R.Receiver.meaning _ _ _ _ _ _ _ _ _ _ (orderly-in _ _ _ c.requires.ordered there).0 answers).goes;
      calm = calm-grown _ _ _ _ _ _ answers (omega arith) refl;
    }) c.nak.ensures
