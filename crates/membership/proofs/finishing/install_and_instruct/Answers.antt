use Rattle.std.proofs.Common.{◌≡◌, [], ◌∷◌, ◌∙◌}
use Rattle.std.proofs.lemmas.Result.{on_ok_weaker}
use Rattle.law_acts.specs.Acts.{others_of}
use Rattle.traffic.specs.ViewStates.{view_of}
use Rattle.step_output.proofs.GrowthAdds.{grows-then}
use Rattle.membership.specs.Installs.{going, finish_packets}
use Rattle.membership.proofs.finishing.install_and_instruct.Goals as goal

pub returns-clause-sent : goal.returns-clause-sent
returns-clause-sent c =
    let view : c.id-view.result ≡ (view_of c.args.view_state.now).id = rw c.view.ensures at c.id-view.ensures in
    let others : c.as_slice-2.result.now ≡ others_of c.args.who.now.address c.args.flush.now.members = c.as_slice-2.ensures.value ∙ rw (c.as_slice.ensures, c.members.ensures) at c.in_ok-others.ensures in
    on_ok_weaker c.instruct_all.result (λ sent. rw (view, others) at sent) c.instruct_all.ensures.sent

pub returns-clause-out : goal.returns-clause-out
returns-clause-out c =
    let me = c.args.who.now.address in
    let f = c.args.flush.now in
    let t = c.args.view_state.now in
    let view : c.id-view.result ≡ (view_of t).id = rw c.view.ensures at c.id-view.ensures in
    let others : c.as_slice-2.result.now ≡ others_of me f.members = c.as_slice-2.ensures.value ∙ rw (c.as_slice.ensures, c.members.ensures) at c.in_ok-others.ensures in
    on_ok_weaker c.instruct_all.result (λ says.
    grows-then c.args.who.now.group c.args.out.now c.install_proposed.new.out c.instruct_all.new.out [] (finish_packets me f t c.args.given.now) (going me f t c.args.own ∷ []) []
    c.in_ok-install_proposed.ensures (rw (view, others) at says)) c.instruct_all.ensures.out

pub instruct_all-requires-clause-sound : goal.instruct_all-requires-clause-sound
instruct_all-requires-clause-sound c =
    let view : c.id-view.result ≡ (view_of c.args.view_state.now).id = rw c.view.ensures at c.id-view.ensures in
    let others : c.as_slice-2.result.now ≡ others_of c.args.who.now.address c.args.flush.now.members = c.as_slice-2.ensures.value ∙ rw (c.as_slice.ensures, c.members.ensures) at c.in_ok-others.ensures in
    rw (view, others) c.requires.sound
