use Rattle.std.proofs.Common.{ap}
use Rattle.membership.proofs.KeepMemberState.{recorded-member_state}
use Rattle.membership.proofs.member_state.MemberState.take_report.Goals as goal
use Rattle.step_output.specs.Steps.{who_of}

pub go_on-requires : goal.go_on-requires
go_on-requires g c = record {
  member_state = recorded-member_state (who_of c.args.who.now) c.args.self.now _ c.args.source c.args.proposal c.args.report.now c.requires.member_state
      (ap (λ f. record c.args.self.now { flush = f }) c.in_ok-record.ensures);
}
