use Rattle.std.proofs.Common.{sym, ◌∙◌}
use Rattle.std.proofs.lemmas.Result.{on_ok_weaker}
use Rattle.membership.proofs.ProposalsLead.{due-is-proposal}
use Rattle.membership.proofs.KeepMemberState.{begun-member_state}
use Rattle.membership.proofs.member_state.MemberState.propose.Goals as goal
use Rattle.step_output.specs.Steps.{who_of}
use Rattle.membership.specs.InSteps.{in_step}

pub begin-requires-clause-greater : goal.begin-requires-clause-greater
begin-requires-clause-greater g c = (due-is-proposal (who_of c.args.who.now) c.args.self.now c.in-Some.proposal c.requires.member_state (sym c.in_ok-due.ensures ∙ c.in-Some.is)).accepted

pub begin-requires-clause-listed : goal.begin-requires-clause-listed
begin-requires-clause-listed g c = (due-is-proposal (who_of c.args.who.now) c.args.self.now c.in-Some.proposal c.requires.member_state (sym c.in_ok-due.ensures ∙ c.in-Some.is)).listed

pub returns-in-Some-clause-member_state : goal.returns-in-Some-clause-member_state
returns-in-Some-clause-member_state g c =
    on_ok_weaker c.begin.result (λ is. begun-member_state (who_of c.args.who.now) c.in-Some.proposal (in_step c.args.self.now c.args.out.now) (in_step c.begin.new.self c.begin.new.out) c.requires.member_state
    (due-is-proposal (who_of c.args.who.now) c.args.self.now c.in-Some.proposal c.requires.member_state (sym c.in_ok-due.ensures ∙ c.in-Some.is)) is) c.begin.ensures
