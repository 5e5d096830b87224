use Rattle.std.proofs.Common.{rules}
use Rattle.std.proofs.lemmas.Result.{on_ok_weaker}
use Rattle.member_rules.proofs.KeepMemberState.{created-member_state}
use Rattle.member_rules.proofs.joining.create.Goals as goal
use Rattle.step_output.specs.Steps.{who_of}

pub returns-clause-member_state : goal.returns-clause-member_state
returns-clause-member_state g c =
    on_ok_weaker c.record.result (λ _. created-member_state (who_of c.args.who.now) c.args.member_state.now _ c.requires.member_state c.requires.idle (search rules)) c.record.ensures
