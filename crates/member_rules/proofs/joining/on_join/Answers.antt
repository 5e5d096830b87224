use Rattle.std.proofs.Common.{◌≡◌, true, ap, is_some, rules}
use Rattle.std.proofs.lemmas.Result.{on_ok_weaker}
use Rattle.next_view.specs.ViewNotes.{NotesModel}
use Rattle.member_rules.proofs.KeepMemberState.{outdated-member_state}
use Rattle.member_rules.proofs.joining.on_join.Goals as goal
use Rattle.step_output.specs.Steps.{who_of}

pub admit-requires-clause-member_state : goal.admit-requires-clause-member_state
admit-requires-clause-member_state g c = outdated-member_state (who_of c.args.who.now) c.args.source c.args.member_state.now _ c.requires.member_state (ap (λ (b : NotesModel). record c.args.member_state.now { notes = b }) c.in_ok-outdate.ensures)

pub returns-clause-does : goal.returns-clause-does
returns-clause-does g c =
    let inside : is_some c.args.member_state.now.view_state ≡ true = search rules in
    on_ok_weaker c.admit.result (λ is. rw inside (rw c.in_ok-outdate.ensures at is)) c.admit.ensures.does
