use Rattle.std.proofs.Common.{◌≡◌, Some, [], ◌∷◌, ◌++◌, find, ap, ◌∙◌, refl}
use Rattle.std.specs.Prelude.{if◌then◌else◌}
use Rattle.std.proofs.lemmas.List.{append-nil}
use Rattle.address.specs.Ids.{Address}
use Rattle.step_output.specs.declared.output.Output.{Output}
use Rattle.step_output.specs.Outputs.{Grows}
use Rattle.step_output.specs.Steps.{Who, who_of}
use Rattle.step_output.proofs.GrowthAdds.{grows-nothing}
use Rattle.membership.specs.declared.member_state.MemberState.{MemberState}
use Rattle.membership.specs.declared.sent_install.SentInstall.{SentInstall}
use Rattle.membership.specs.MemberStates.{is_sent_to}
use Rattle.membership.specs.InSteps.{in_step}
use Rattle.membership.specs.Changes.{InstallsAgain, state_packets, chunks_before}
use Rattle.membership.proofs.member_state.MemberState.install_again.Goals as goal
use Rattle.membership.proofs.member_state.MemberState.install_again.Goals.{then-sent+in_ok-put_state_again, else-sent}

again : {S : Type 0} (who : Who) (q : Address) (l : MemberState S) (sent : SentInstall) (a b later : Output) → Some sent ≡ find (is_sent_to q) l.sent_installs.items
    → Grows who.group a b (chunks_before who.address q l (Some sent)) [] → later.packets.items ≡ b.packets.items ++ sent.packet ∷ [] → later.events ≡ b.events
    → InstallsAgain who q (in_step l a) later
again who q l sent a b later is x packets events =
    record { packets = rw (← is) (packets ∙ ap (λ ps. ps ++ sent.packet ∷ []) x.packets); sound = rw (← is) x.sound; events = ap (λ e. e.items) events ∙ x.events ∙ append-nil a.events.items }

pub returns-clause-again : goal.returns-clause-again
returns-clause-again g c =
    let before : Grows c.args.who.now.group c.args.out.now c.if-sent.out (if c.in-Some.sent.now.in_chunks then state_packets c.args.who.now.address c.args.member.now c.args.self.now else []) [] =
    elim c.if-sent.branch [
      | then-sent+in_ok-put_state_again w ↦ rw (w.if-sent.true, w.out-is) w.in_ok-put_state_again.ensures
      | else-sent w ↦ rw (w.if-sent.false, w.out-is) (grows-nothing c.args.who.now.group c.args.out.now)
    ] in
    again (who_of c.args.who.now) c.args.member.now c.args.self.now c.in-Some.sent.now c.args.out.now c.if-sent.out _ (rw c.as_slice.ensures.value at c.in-Some.ensures) before (rw c.in_ok-packet.ensures at c.in_ok-push.ensures.items) refl
