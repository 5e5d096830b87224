use Rattle.std.proofs.Common.{◌≡◌, [], ◌∷◌, ◌++◌, Option, List, ℕ, map, ap, ◌∙◌, subst, sym}
use Rattle.std.specs.List.{AllByRecursion}
use Rattle.address.specs.Ids.{ViewId}
use Rattle.state_transfer.specs.Meanings.{Meaning}
use Rattle.flush.specs.Flushes.{FlushModel}
use Rattle.traffic.specs.declared.view_state.ViewState.{ViewState}
use Rattle.law_acts.specs.Acts.{others_of, delivery}
use Rattle.law_acts.specs.Decisions.{kept_of}
use Rattle.traffic.specs.ViewStates.{view_of}
use Rattle.step_output.specs.Outputs.{Grows}
use Rattle.step_output.specs.Steps.{who_of}
use Rattle.step_output.proofs.GrowthAdds.{grows-then}
use Rattle.membership.specs.Installs.{IsSayable, given_to, delivered_by, own_of, going, finished_state, finished_given, finish_sent, finish_packets}
use Rattle.membership.proofs.finishing.finish.Goals as goal

-- what is given is the state that is left, if one is
given-is : {S : Type 0} (meaning : Meaning S) (f : FlushModel) (t : ViewState) (v : ViewId) (old new : S) (given : Option (List ℕ)) → given ≡ given_to f v (meaning.encode new)
    → v ≡ (view_of t).id → new ≡ finished_state meaning f t old → given ≡ finished_given meaning f t old
given-is meaning f t v old new given is view state =
    is ∙ ap (λ (u : ViewId). given_to f u (meaning.encode new)) view ∙ ap (λ s. given_to f (view_of t).id (meaning.encode s)) state

pub returns-clause-sent : goal.returns-clause-sent
returns-clause-sent g c =
    c.in_ok-install_and_instruct.ensures.sent
    ∙ ap (λ (o : Option (List ℕ)). c.args.sent.now.items ++ finish_sent (who_of c.args.who.now) c.args.flush.now c.args.view_state.now o)
    (given-is g.R.Receiver.meaning c.args.flush.now c.args.view_state.now c.id.result c.args.receiver.now c.deliver_cut.new.receiver c.in_ok-given.given c.in_ok-given.ensures.given (rw c.view.ensures at c.id.ensures) c.in_ok-own.ensures.state)

pub returns-clause-out : goal.returns-clause-out
returns-clause-out g c =
    let group = c.args.who.now.group in
    let me = c.args.who.now.address in
    let f = c.args.flush.now in
    let t = c.args.view_state.now in
    let given-it = given-is g.R.Receiver.meaning f t c.id.result c.args.receiver.now c.deliver_cut.new.receiver c.in_ok-given.given c.in_ok-given.ensures.given (rw c.view.ensures at c.id.ensures) c.in_ok-own.ensures.state in
    let given = finished_given g.R.Receiver.meaning f t c.args.receiver.now in
    let rest : Grows group c.deliver_cut.new.out c.install_and_instruct.new.out (finish_packets me f t given) (going me f t (own_of me (delivered_by f t)) ∷ []) =
    subst (λ (n : ℕ). Grows group c.deliver_cut.new.out c.install_and_instruct.new.out (finish_packets me f t given) (going me f t n ∷ [])) c.in_ok-own.ensures.own
    (subst (λ (o : Option (List ℕ)). Grows group c.deliver_cut.new.out c.install_and_instruct.new.out (finish_packets me f t o) (going me f t c.in_ok-own.own ∷ [])) given-it c.in_ok-install_and_instruct.ensures.out) in
    grows-then group c.args.out.now c.deliver_cut.new.out c.install_and_instruct.new.out [] (finish_packets me f t given) (map (delivery me (view_of t).id) (delivered_by f t)) (going me f t (own_of me (delivered_by f t)) ∷ [])
    c.in_ok-own.ensures.out rest

pub install_and_instruct-requires-clause-sound : goal.install_and_instruct-requires-clause-sound
install_and_instruct-requires-clause-sound g c =
    subst (λ (o : Option (List ℕ)). AllByRecursion (IsSayable c.args.flush.now (view_of c.args.view_state.now).id o) (others_of c.args.who.now.address c.args.flush.now.members))
    (sym (given-is g.R.Receiver.meaning c.args.flush.now c.args.view_state.now c.id.result c.args.receiver.now c.deliver_cut.new.receiver c.in_ok-given.given c.in_ok-given.ensures.given (rw c.view.ensures at c.id.ensures) c.in_ok-own.ensures.state)) c.requires.sound

pub returns-clause-state : goal.returns-clause-state
returns-clause-state g c = c.in_ok-own.ensures.state

pub returns-clause-kept : goal.returns-clause-kept
returns-clause-kept g c =
    c.kept_of.ensures.kept
    ∙ ap kept_of (given-is g.R.Receiver.meaning c.args.flush.now c.args.view_state.now c.id.result c.args.receiver.now c.deliver_cut.new.receiver c.in_ok-given.given c.in_ok-given.ensures.given (rw c.view.ensures at c.id.ensures) c.in_ok-own.ensures.state)

pub returns-clause-total : goal.returns-clause-total
returns-clause-total g c = c.kept_of.ensures.total
