use Rattle.std.proofs.Common.{ap, subst, rules}
use Rattle.std.proofs.lemmas.Result.{on_ok_weaker}
use Rattle.next_view.specs.ViewNotes.{NotesModel}
use Rattle.membership.specs.Changes.{BeginsAnew}
use Rattle.membership.proofs.KeepNotes.{heard-member_state}
use Rattle.membership.proofs.member_state.MemberState.take_behind.Goals as goal
use Rattle.step_output.specs.Steps.{who_of}
use Rattle.membership.specs.InSteps.{in_step}

pub begin_anew-requires : goal.begin_anew-requires
begin_anew-requires g c = record {
  member_state = heard-member_state (who_of c.args.who.now) c.args.self.now _ c.args.counter c.requires.member_state (ap (λ (b : NotesModel). record c.args.self.now { notes = b }) (search rules));
}

pub returns-clause-takes : goal.returns-clause-takes
returns-clause-takes g c =
    on_ok_weaker c.begin_anew.result (λ is. subst (λ (b : NotesModel). BeginsAnew g.R.Receiver.meaning (who_of c.args.who.now) (in_step (record c.args.self.now { notes = b }) c.args.out.now) (in_step c.begin_anew.new.self c.begin_anew.new.out))
    (search rules) is) c.begin_anew.ensures.begins
