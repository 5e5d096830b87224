-- What a member did one after the other; and one who did nothing, or only noted.
use Rattle.std.proofs.Common.{◌≡◌, Option, Some, [], ◌++◌, sym, subst}
use Rattle.state_transfer.specs.Meanings.{Meaning}
use Rattle.next_view.specs.ViewNotes.{NotesModel}
use Rattle.wire_values.specs.Posted.{Posted}
use Rattle.law_acts.proofs.LawsOfActs.{nothing-acted, then-acted}
use Rattle.step_output.specs.declared.output.Output.{Output}
use Rattle.step_output.proofs.GrowthAdds.{grows-nothing, grows-then}
use Rattle.membership.specs.declared.member_state.MemberState.{MemberState}
use Rattle.membership.specs.Doing.{Did}
use Rattle.membership.specs.MemberStates.{core_of}
use Rattle.step_output.specs.Steps.{Who}
use Rattle.membership.specs.InSteps.{InStep, in_step}

module _ {S : Type 0} (meaning : Meaning S) (came : Option Posted) (who : Who) where
  pub nothing-did : (l : MemberState S) (out : Output) → Did meaning came who (in_step l out) (in_step l out)
  nothing-did l out = record {
    posted = [];
    happened = [];
    grows = grows-nothing who.group out;
    acted = nothing-acted meaning came (Some (core_of who.address l));
  }

  pub did-then : (a b c : InStep S) → Did meaning came who a b → Did meaning came who b c → Did meaning came who a c
  did-then a b c p q = record {
    posted = p.posted ++ q.posted;
    happened = p.happened ++ q.happened;
    grows = grows-then who.group a.out b.out c.out p.posted q.posted p.happened q.happened p.grows q.grows;
    acted = then-acted meaning came (Some (core_of who.address a.member)) (Some (core_of who.address b.member)) (Some (core_of who.address c.member)) p.posted q.posted p.happened q.happened p.acted q.acted;
  }

  -- a note is no act
  pub noted-did : (l new : MemberState S) (b : NotesModel) (out : Output) → new ≡ record l { notes = b } → Did meaning came who (in_step l out) (in_step new out)
  noted-did l new b out is = subst (λ (z : MemberState S). Did meaning came who (in_step l out) (in_step z out)) (sym is) (record {
    posted = [];
    happened = [];
    grows = grows-nothing who.group out;
    acted = nothing-acted meaning came (Some (core_of who.address l));
  })

  -- nothing was done
  pub stays-did : (l new : InStep S) → new.member ≡ l.member → new.out ≡ l.out → Did meaning came who l new
  stays-did l new is same =
      subst (λ (z : MemberState S). Did meaning came who l (in_step z new.out)) (sym is) (subst (λ (o : Output). Did meaning came who l (in_step l.member o)) (sym same) (nothing-did l.member l.out))
