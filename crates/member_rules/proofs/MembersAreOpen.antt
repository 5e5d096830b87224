-- A member that is open in a view, in the words of the law; it stays what a member is where only its messages change.
use Rattle.std.proofs.Common.{◌≡◌, ℕ, true, Option, None, Some, List, refl, sym, ap, ◌∙◌, subst}
use Rattle.std.specs.Option.{ForSome}
use Rattle.std.specs.List.{AllByRecursion}
use Rattle.std.proofs.lemmas.Bool.{false≢true}
use Rattle.std.proofs.lemmas.Option.{none-some, same_Some}
use Rattle.address.specs.Ids.{Address}
use Rattle.view.specs.Members.{View, stands_in}
use Rattle.state_transfer.specs.Meanings.{Meaning}
use Rattle.flush.specs.Flushes.{FlushModel}
use Rattle.wire_values.specs.Posted.{Posted}
use Rattle.law_acts.specs.Cores.{Core}
use Rattle.law_acts.specs.Chains.{Acted}
use Rattle.law_acts.proofs.LawsOfActs.{nothing-acted}
use Rattle.step_output.specs.declared.output.Output.{Output}
use Rattle.step_output.proofs.GrowthAdds.{grows-nothing}
use Rattle.traffic.specs.declared.view_state.ViewState.{ViewState}
use Rattle.traffic.specs.ViewStates.{view_of, view_core_of}
use Rattle.traffic.specs.Goings.{Beside, open_core, Goes}
use Rattle.membership.specs.declared.member_state.MemberState.{MemberState}
use Rattle.membership.specs.MemberStates.{IsMemberState, IsFlushing, core_of, view_in, sent_installs_in, chunks_in}
use Rattle.membership.specs.Doing.{Did}
use Rattle.member_rules.specs.Ordered.{IsOrderly}
use Rattle.step_output.specs.Steps.{who}
use Rattle.traffic.specs.InViews.{in_view}
use Rattle.membership.specs.InSteps.{in_step}

no-flush-by : {S : Type 0} (me : Address) (l : MemberState S) (f : Option FlushModel) → l.flush ≡ f → ForSome l.flush (IsFlushing me l) → l.promise.is_installed ≡ true → f ≡ None
no-flush-by me l None here flushing promised = refl
no-flush-by me l (Some f) here flushing promised = let own : IsFlushing me l f = flushing f here in absurd (false≢true (sym own.waiting ∙ promised))

no-flush : {S : Type 0} (group : List ℕ) (me : Address) (l : MemberState S) → IsMemberState (who me group) l → l.promise.is_installed ≡ true → l.flush ≡ None
no-flush group me l i promised = no-flush-by me l l.flush refl i.flushing promised

pub there-is : (o : Option ViewState) (f t : ViewState) → o ≡ Some f → f ≡ t → o ≡ Some t
there-is o f t some is = some ∙ ap (λ (x : ViewState). Some x) is

pub orderly-in : (me : Address) (o : Option ViewState) (t : ViewState) → ForSome o (IsOrderly me) → o ≡ Some t → IsOrderly me t
orderly-in me o t ordered there = ordered t there

pub ordered-by : (me : Address) (t : ViewState) → IsOrderly me t → ForSome (Some t) (IsOrderly me)
ordered-by me t orderly = λ u some. subst (λ (x : ViewState). IsOrderly me x) (same_Some _ _ some) orderly

-- with this kept of its view, and this state
abbrev pub going_on : {S : Type 0} → MemberState S → ViewState → S → MemberState S
going_on l t s = record l { view_state = Some t; receiver = s }

-- what it keeps beside its view's messages
abbrev beside_of : {S : Type 0} → MemberState S → Beside
beside_of l = record { sent_installs = sent_installs_in l.sent_installs.items; kept_state = l.sent_state; chunks = chunks_in l }

-- it is open in its view
pub core-open : {S : Type 0} (group : List ℕ) (me : Address) (l : MemberState S) (t : ViewState) → IsMemberState (who me group) l → l.promise.is_installed ≡ true → l.view_state ≡ Some t
    → core_of me l ≡ open_core me (view_of t) (beside_of l) (view_core_of t) l.receiver
core-open group me l t i promised there =
    let flush : l.flush ≡ None = no-flush group me l i promised in
    let promise : l.promise.proposal ≡ Some (view_of t) = sym (i.installed promised) ∙ ap view_in there in
    rw (there, promised, promise, flush) refl

pub member_state-kept : {S : Type 0} (group : List ℕ) (me : Address) (l : MemberState S) (t u : ViewState) (s : S) → IsMemberState (who me group) l → l.promise.is_installed ≡ true → l.view_state ≡ Some t → view_of u ≡ view_of t
    → IsMemberState (who me group) (going_on l u s)
member_state-kept group me l t u s i promised there same =
    let inside : view_in l.view_state ≡ Some (view_of u) = ap view_in there ∙ ap (λ (v : View). Some v) (sym same) in
    record {
      own = i.own;
      unsuspected = i.unsuspected;
      inside = subst (λ (v : Option View). ForSome v (λ w. stands_in me w.members ≡ true)) inside i.inside;
      listed = i.listed;
      unconnected = λ none. absurd (false≢true (sym none));
      waiting = i.waiting;
      installed = λ x. sym inside ∙ i.installed x;
      flushing = subst (λ (f : Option FlushModel). ForSome f (IsFlushing me (going_on l u s))) (sym (no-flush group me l i promised)) (λ f some. absurd (none-some _ some));
      sent_installs = record {
        given = i.sent_installs.given;
        spelled = i.sent_installs.spelled;
        sound = i.sent_installs.sound;
        current = subst (λ (v : Option View). AllByRecursion (λ p. v ≡ Some p.1.view) i.sent_installs.given) inside i.sent_installs.current;
        state = i.sent_installs.state;
      };
      held = i.held;
    }

module _ {S : Type 0} (meaning : Meaning S) where
  pub nothing-did : (came : Option Posted) (group : List ℕ) (me : Address) (l : MemberState S) (out : Output) → Did meaning came (who me group) (in_step l out) (in_step l out)
  nothing-did came group me l out = record { posted = _; happened = _; grows = grows-nothing group out; acted = nothing-acted meaning came (Some (core_of me l)) }

  pub goes-did : (came : Option Posted) (group : List ℕ) (me : Address) (l : MemberState S) (t u : ViewState) (s : S) (out later : Output) → IsMemberState (who me group) l → l.promise.is_installed ≡ true → l.view_state ≡ Some t
      → view_of u ≡ view_of t → Goes meaning came (who me group) (view_of t) (in_view (view_core_of t) l.receiver out) (in_view (view_core_of u) s later)
      → Did meaning came (who me group) (in_step l out) (in_step (going_on l u s) later)
  goes-did came group me l t u s out later i promised there same x = record {
    posted = x.posted;
    happened = x.happened;
    grows = x.grows;
    acted =
        subst (λ (c : Core S). Acted meaning came (Some c) x.posted x.happened (Some (core_of me (going_on l u s)))) (sym (core-open group me l t i promised there))
        (subst (λ (c : Core S). Acted meaning came (Some (open_core me (view_of t) (beside_of l) (view_core_of t) l.receiver)) x.posted x.happened (Some c))
        (ap (λ (v : View). open_core me v (beside_of l) (view_core_of u) s) (sym same) ∙ sym (core-open group me (going_on l u s) u (member_state-kept group me l t u s i promised there same) promised refl))
        (x.acted (beside_of l)));
  }

  -- nothing of it but what it puts out
  pub goes-same : (came : Option Posted) (group : List ℕ) (me : Address) (l : MemberState S) (t : ViewState) (out later : Output) → IsMemberState (who me group) l → l.promise.is_installed ≡ true → l.view_state ≡ Some t
      → Goes meaning came (who me group) (view_of t) (in_view (view_core_of t) l.receiver out) (in_view (view_core_of t) l.receiver later) → Did meaning came (who me group) (in_step l out) (in_step l later)
  goes-same came group me l t out later i promised there x =
      subst (λ (o : Option ViewState). Did meaning came (who me group) (in_step l out) (in_step (record l { view_state = o }) later)) (sym there)
      (goes-did came group me l t t l.receiver out later i promised there refl x)
