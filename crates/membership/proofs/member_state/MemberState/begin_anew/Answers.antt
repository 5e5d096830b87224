use Rattle.std.proofs.Common.{sym, ◌∙◌}
use Rattle.std.proofs.lemmas.Result.{on_ok_weaker}
use Rattle.membership.proofs.ProposalsLead.{anew-is-proposal}
use Rattle.membership.proofs.KeepMemberState.{begun-member_state}
use Rattle.membership.proofs.member_state.MemberState.begin_anew.Goals as goal
use Rattle.membership.specs.InSteps.{in_step}
use Rattle.step_output.specs.Steps.{who_of}

pub begin-requires-clause-greater : goal.begin-requires-clause-greater
begin-requires-clause-greater g c = (anew-is-proposal (who_of c.args.who.now) c.args.self.now c.in-Some.proposal c.requires.member_state (sym c.in_ok-anew.ensures ∙ c.in-Some.is)).accepted

pub begin-requires-clause-listed : goal.begin-requires-clause-listed
begin-requires-clause-listed g c = (anew-is-proposal (who_of c.args.who.now) c.args.self.now c.in-Some.proposal c.requires.member_state (sym c.in_ok-anew.ensures ∙ c.in-Some.is)).listed

pub go_on-requires : goal.go_on-requires
go_on-requires g c = record {
  member_state = begun-member_state (who_of c.args.who.now) c.in-Some.proposal (in_step c.args.self.now c.args.out.now) (in_step c.begin.new.self c.begin.new.out) c.requires.member_state
      (anew-is-proposal (who_of c.args.who.now) c.args.self.now c.in-Some.proposal c.requires.member_state (sym c.in_ok-anew.ensures ∙ c.in-Some.is)) c.in_ok-begin-in-Some.ensures;
}

pub returns-in_ok-begin-in-Some-clause-begins : goal.returns-in_ok-begin-in-Some-clause-begins
returns-in_ok-begin-in-Some-clause-begins g c = on_ok_weaker c.go_on.result (λ is.
    rw (sym c.in_ok-anew.ensures ∙ c.in-Some.is)
    (record { mid = in_step c.begin.new.self c.begin.new.out; begins = c.in_ok-begin-in-Some.ensures; goes_on = is })) c.go_on.ensures.goes_on
