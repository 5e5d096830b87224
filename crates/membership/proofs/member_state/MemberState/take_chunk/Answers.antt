use Rattle.std.proofs.Common.{refl, rules}
use Rattle.step_output.specs.Steps.{who_of}
use Rattle.membership.proofs.KeepMemberState.{held-member_state}
use Rattle.membership.proofs.member_state.MemberState.take_chunk.Goals as goal

pub returns-in_ok-hold-clause-member_state : goal.returns-in_ok-hold-clause-member_state
returns-in_ok-hold-clause-member_state g c =
    held-member_state (who_of c.args.who.now) c.args.self.now _ c.hold.new.self c.requires.member_state refl (search rules)
