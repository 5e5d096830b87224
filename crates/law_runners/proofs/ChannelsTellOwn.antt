-- What channels tell happens to the member of their address.
use Rattle.std.proofs.Common.{◌≡◌, ℕ, Bool, true, false, cond, Option, Some, None, Ok, Err, List, [], ◌∷◌, ◌++◌, sym, ap, ◌∙◌, subst}
use Rattle.std.specs.Prelude.{is_some}
use Rattle.std.specs.Option.{option_map}
use Rattle.std.specs.List.{AllByRecursion}
use Rattle.std.proofs.lemmas.Option.{none-some, same_Some}
use Rattle.std.proofs.lemmas.List.{append-nil}
use Rattle.address.specs.Ids.{Address}
use Rattle.state_transfer.specs.Meanings.{Meaning}
use Rattle.trace_props.specs.declared.event.Event.{Event}
use Rattle.trace_props.specs.Observed.{member_of}
use Rattle.law_acts.specs.Cores.{Core}
use Rattle.membership.specs.declared.member_state.MemberState.{MemberState}
use Rattle.membership.specs.MemberStates.{core_of as core_at}
use Rattle.member.specs.Members.{MemberModel, core_of}
use Rattle.channel.specs.declared.stage.Stage.{Stage}
use Rattle.channel.specs.declared.stage.Stage.TheVariants.{Apart, Connected, Ended}
use Rattle.udp_net.specs.Logs.{Log, Answered, Offered}
use Rattle.law_processes.specs.Deployments.{Step, Start, Call, Crash, whose, left_with, told_by}
use Rattle.law_processes.specs.Processes.{StepsSo, all_told}
use Rattle.law_processes.proofs.ActsAreOwn.{EachOwn, own-append, own-chain}
use Rattle.law_runners.specs.Items.{Item, OfNet, OfMember, Standing, not_begun, then_stands, stands_after, Follow, steps_in}
use Rattle.law_runners.specs.Runs.{running_in, standing}
use Rattle.law_runners.specs.Systems.{PlayedTellOwn}
use Rattle.law_runners.proofs.HandsPlay.{runner-is, runner-stands}
use Rattle.law_runners.proofs.ItemsOfCalls.{drives-adds}
use Rattle.law_processes.proofs.NewMembers.{new_member, is-new}

-- whose they are
whose-each : (p : Address) (s : List Event) → EachOwn p s → AllByRecursion (λ e. member_of e ≡ p) s
whose-each p [] own = tt
whose-each p (e ∷ s) own = (own.0.0, whose-each p s own.1)

module _ {S : Type 0} (meaning : Meaning S) where
  -- the member that runs, if one does, is of the address
  abbrev pub IsAt : Address → Option (MemberModel S) → Type 0
  IsAt p running = (m : MemberModel S) → running ≡ Some m → m.address ≡ p

  core-me : (address : Address) (state : Option (MemberState S)) (d : Core S) → option_map (core_at address) state ≡ Some d → d.me ≡ address
  core-me address None d e = absurd (none-some d e)
  core-me address (Some l) d e = sym (ap (λ (c : Core S). c.me) (same_Some (core_at address l) d e))

  running-at : (p : Address) (b : Bool) (left : MemberModel S) → left.address ≡ p → IsAt p (cond b (Some left) None)
  running-at p true left e m at = sym (ap (λ (n : MemberModel S). n.address) (same_Some left m at)) ∙ e
  running-at p false left e m at = absurd (none-some m at)

module _ {S : Type 0} (meaning : Meaning S) (group : List ℕ) (p : Address) where
  step-own : (running : Option (MemberModel S)) (x : Step S) → IsAt meaning p running → StepsSo meaning group running x → EachOwn p (told_by x)
  step-own running (Start q m) at so = tt
  step-own running (Call q input (Ok out) left) at so =
      let did = so.handled.acted in
      subst (EachOwn p) (sym did.acted.happens)
      (own-chain meaning p _ did.acted.acts (core_of so.member) (core_of left) (λ d e. core-me meaning so.member.address so.member.member_state d e ∙ at so.member so.runs) did.acted.chain)
  step-own running (Call q input (Err e) left) at so = tt
  step-own running (Crash q) at so = tt

  step-at : (running : Option (MemberModel S)) (x : Step S) → whose x ≡ p → IsAt meaning p running → StepsSo meaning group running x → IsAt meaning p (left_with x)
  step-at running (Start q m) own at so = λ n e. sym (ap (λ (k : MemberModel S). k.address) (same_Some m n e)) ∙ so.address ∙ own
  step-at running (Call q input result left) own at so = running-at meaning p (is_some left.member_state) left (so.handled.address ∙ at so.member so.runs)
  step-at running (Crash q) own at so = λ n e. absurd (none-some n e)

  follow-own : (s : Standing S) (items : List (Item S)) → IsAt meaning p s.running → Follow meaning group p s items → EachOwn p (all_told (steps_in items))
  follow-own s [] at f = tt
  follow-own s (OfNet (Answered answer) ∷ items) at f = follow-own (then_stands s (OfNet (Answered answer))) items at f.1
  follow-own s (OfNet (Offered offer) ∷ items) at f = follow-own (then_stands s (OfNet (Offered offer))) items at f.1
  follow-own s (OfMember x ∷ items) at f =
      own-append p (told_by x) (all_told (steps_in items)) (step-own s.running x at f.0.1)
      (follow-own (then_stands s (OfMember x)) items (step-at s.running x f.0.0 at f.0.1) f.1)

  follow-at : (s : Standing S) (items : List (Item S)) → IsAt meaning p s.running → Follow meaning group p s items → IsAt meaning p (stands_after s items).running
  follow-at s [] at f = at
  follow-at s (OfNet (Answered answer) ∷ items) at f = follow-at (then_stands s (OfNet (Answered answer))) items at f.1
  follow-at s (OfNet (Offered offer) ∷ items) at f = follow-at (then_stands s (OfNet (Offered offer))) items at f.1
  follow-at s (OfMember x ∷ items) at f = follow-at (then_stands s (OfMember x)) items (step-at s.running x f.0.0 at f.0.1) f.1

  stage-at : (m n : MemberModel S) (stage : Stage S) → n.address ≡ p → IsAt meaning p (running_in m stage) → IsAt meaning p (running_in n stage)
  stage-at m n (Apart s) own at = λ k e. sym (ap (λ (z : MemberModel S). z.address) (same_Some n k e)) ∙ own
  stage-at m n (Connected z) own at = at
  stage-at m n Ended own at = at

pub told-own : {N S : Type 0} (log : N → Option Log) (failed : N → ℕ) (meaning : Meaning S) → PlayedTellOwn log failed meaning
told-own {N} {S} log failed meaning group at gone events p old taken fell new (seen, played) there drives told =
    let r = runner-is log failed meaning group at gone events seen played p old there in
    let y = runner-stands log failed meaning group at gone events seen played p old there in
    let x = drives-adds log failed meaning group old taken fell new r.0 r.1 drives in
    let q = old.channel.address in
    let fresh = is-new meaning group q r.0 in
    let m = new_member meaning group q in
    let here : IsAt meaning p (running_in (new_member meaning group p) old.channel.stage) =
    subst (λ (o : Option (MemberModel S)). IsAt meaning p o) y.running (follow-at meaning group p not_begun y.own (λ k e. absurd (none-some k e)) y.process) in
    let same : taken ≡ all_told (steps_in x.items) =
    sym (append-nil taken) ∙ ap (λ (l : List Event). taken ++ l) (sym told) ∙ x.tells ∙ ap (λ (l : List Event). l ++ all_told (steps_in x.items)) r.2 in
    whose-each p taken (subst (EachOwn p) (sym same)
    (follow-own meaning group p _ x.items (stage-at meaning group p (new_member meaning group p) (x.before m) old.channel.stage ((x.is_new m fresh).address ∙ y.address) here)
    (subst (λ (a : Address). Follow meaning group a (standing (x.before m) old) x.items) y.address (x.follow m fresh))))
