use Rattle.std.proofs.Common.{ap}
use Rattle.next_view.specs.ViewNotes.{NotesModel}
use Rattle.member_rules.proofs.KeepMemberState.{joined-member_state}
use Rattle.member_rules.proofs.joining.admit.Goals as goal
use Rattle.step_output.specs.Steps.{who_of}

pub regroup-requires : goal.regroup-requires
regroup-requires g c = record { member_state = joined-member_state (who_of c.args.who.now) c.args.source c.args.member_state.now _ c.requires.member_state (ap (λ (b : NotesModel). record c.args.member_state.now { notes = b }) c.in_ok-note_joiner.ensures) }
