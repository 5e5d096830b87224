use Rattle.std.proofs.Common.{sym, ap, ◌∙◌, refl, subst}
use Rattle.wire_values.specs.declared.packet.Body.{Body}
use Rattle.membership.proofs.ActsOfChanges.{takes-install-did}
use Rattle.member.specs.Hearing.{Hears, ignores}
use Rattle.member.proofs.KeepOrder.{steady-ordered, items-few}
use Rattle.member_rules.proofs.KeepSteady as steady
use Rattle.member_rules.proofs.ViewsAreCalm as calm
use Rattle.member.proofs.rules.hear.Goals as goal
use Rattle.std.proofs.lemmas.Bool.{not-true}
use Rattle.step_output.specs.Steps.{who_of}
use Rattle.membership.specs.InSteps.{in_step}

pub returns-in_ok-take_install-in-Install-clause-hears : goal.returns-in_ok-take_install-in-Install-clause-hears
returns-in_ok-take_install-in-Install-clause-hears g c = subst (λ (b : Body). Hears g.R.Receiver.meaning (who_of c.args.who.now) c.args.source b (in_step c.args.member_state.now c.args.out.now) (in_step c.take_install.new.self c.take_install.new.out)) (sym c.in-Install.is) record {
  member_state = c.in_ok-take_install-in-Install.ensures.member_state;
  ordered = steady-ordered _ _ c.args.member_state.now c.take_install.new.self (steady.install-steady (who_of c.args.who.now) g.R.Receiver.meaning c.args.source c.in-Install.install (in_step c.args.member_state.now c.args.out.now) (in_step c.take_install.new.self c.take_install.new.out) c.in_ok-take_install-in-Install.ensures.takes) c.in_ok-take_install-in-Install.ensures.member_state c.requires.ordered;
  does = c.in_ok-take_install-in-Install.ensures.takes;
  did = takes-install-did g.R.Receiver.meaning (who_of c.args.who.now) _ c.args.source c.in-Install.install (in_step c.args.member_state.now c.args.out.now) (in_step c.take_install.new.self c.take_install.new.out) c.requires.member_state c.in_ok-take_install-in-Install.ensures.takes refl;
  calm = calm.install-calm (who_of c.args.who.now) g.R.Receiver.meaning c.args.source c.in-Install.install (in_step c.args.member_state.now c.args.out.now) (in_step c.take_install.new.self c.take_install.new.out) (items-few c.in-Install.install c.view.ensures.install) c.in_ok-take_install-in-Install.ensures.takes;
}

pub returns-in_ok-take_install-in-Install-clause-ignored : goal.returns-in_ok-take_install-in-Install-clause-ignored
returns-in_ok-take_install-in-Install-clause-ignored g c =
    λ i. let y = c.in_ok-take_install-in-Install.ensures.ignored (not-true _ (sym (ap (λ (b : Body). ignores c.args.who.now.address c.args.source b c.args.member_state.now) c.in-Install.is) ∙ i)) in (refl, y.1)

pub returns-in_err-take_install-in-Install-clause-ignored : goal.returns-in_err-take_install-in-Install-clause-ignored
returns-in_err-take_install-in-Install-clause-ignored g c =
    λ i. let y = c.in_err-take_install-in-Install.ensures.ignored (not-true _ (sym (ap (λ (b : Body). ignores c.args.who.now.address c.args.source b c.args.member_state.now) c.in-Install.is) ∙ i)) in absurd (let n = y.0 in cc)
