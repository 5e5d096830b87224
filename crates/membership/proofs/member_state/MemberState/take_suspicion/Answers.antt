use Rattle.std.proofs.Common.{ap}
use Rattle.next_view.specs.ViewNotes.{NotesModel}
use Rattle.membership.proofs.KeepNotes.{suspected-member_state}
use Rattle.membership.proofs.member_state.MemberState.take_suspicion.Goals as goal
use Rattle.step_output.specs.Steps.{who_of}

pub regroup-requires : goal.regroup-requires
regroup-requires g c = record {
  member_state = suspected-member_state (who_of c.args.who.now) c.args.self.now _ c.args.address c.requires.member_state c.requires.other
      (ap (λ (b : NotesModel). record c.args.self.now { notes = b }) c.in_ok-suspect.ensures.ok);
}
