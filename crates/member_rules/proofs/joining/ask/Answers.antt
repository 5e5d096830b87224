use Rattle.std.proofs.Common.{refl}
use Rattle.std.proofs.lemmas.Result.{on_ok_weaker}
use Rattle.membership.proofs.KeepMemberState.{contact-member_state}
use Rattle.member_rules.proofs.joining.ask.Goals as goal
use Rattle.step_output.specs.Steps.{who_of}

pub returns-clause-member_state : goal.returns-clause-member_state
returns-clause-member_state g c = on_ok_weaker c.put.result (λ _. contact-member_state (who_of c.args.who.now) c.args.member_state.now _ c.args.contact c.requires.member_state refl) c.put.ensures
