use Rattle.std.proofs.Common.{rules}
use Rattle.next_view.specs.ViewNotes.{having_heard}
use Rattle.membership.proofs.ProposalsLead.{flush-leads, anew-is}
use Rattle.membership.proofs.member_state.MemberState.anew_past.Goals as goal
use Rattle.step_output.specs.Steps.{who_of}

pub proposal_past-requires-clause-leads : goal.proposal_past-requires-clause-leads
proposal_past-requires-clause-leads g c = flush-leads (who_of c.args.who.now) c.args.self.now c.view.result.now c.requires.member_state (search rules) (search rules)

pub returns-in_ok-proposal-in-Some : goal.returns-in_ok-proposal-in-Some
returns-in_ok-proposal-in-Some g c =
    anew-is c.args.who.now.address (record c.args.self.now { notes = having_heard c.args.counter c.args.self.now.notes }) c.view.result.now _ (search rules) (search rules) (search rules)
