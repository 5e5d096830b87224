-- In a change of view a member keeps what it keeps of its view, or begins a view anew.
use Rattle.std.proofs.Common.{◌≡◌, ℕ, Bool, true, false, Option, Some, None, ap, ◌∙◌, is_some, ◌&&◌, not, List, ◌++◌, ◌∷◌, []}
use Rattle.std.specs.Prelude.{MatchBool, MatchOption}
use Rattle.std.specs.Option.{option_map}
use Rattle.address.specs.Ids.{Address, ViewId, same_address}
use Rattle.view.specs.Members.{View}
use Rattle.wire_values.specs.Values as wire
use Rattle.state_transfer.specs.Meanings.{Meaning}
use Rattle.flush.specs.Flushes.{FlushModel}
use Rattle.view_install.specs.declared.promise.OfferAnswer.{OfferAnswer}
use Rattle.view_install.specs.declared.promise.OfferAnswer.TheVariants.{Accept, Behind, Ignore}
use Rattle.view_install.specs.Promises.{offered}
use Rattle.law_acts.specs.Acts.{proposed}
use Rattle.law_acts.specs.Decisions.{due_proposal}
use Rattle.step_output.specs.declared.output.Output.{Output}
use Rattle.traffic.specs.declared.view_state.ViewState.{ViewState}
use Rattle.traffic.specs.ViewStates.{fresh_in}
use Rattle.membership.specs.declared.member_state.MemberState.{MemberState}
use Rattle.next_view.specs.ViewNotes.{having_heard, suspecting}
use Rattle.membership.specs.MemberStates.{core_of, is_complete, recording, anew_proposal, would_hold}
use Rattle.membership.specs.Changes.{StaysAs, TakesBy, TakesFlush, Begins, BeginsAndGoesOn, FinishesAndProposes, GoesOn, Regroups, TakesReport, TakesBehind, TakesSuspicion, TakesInstall, TakesChunk, would_enter, Enters}
use Rattle.membership.specs.HeldChunks.{given_in}
use Rattle.member_rules.specs.Views.{OnJoin, OnSuspect, OnFlush, OnBehind, OnReport, OnMerge, Redirects, SaysAgain, Admits, Meets, AnnouncesView, outdated, joined, merged, leads_now, has_member, is_less, is_suspectable, is_proposing, expects, is_in}
use Rattle.step_output.specs.Steps.{Who}
use Rattle.membership.specs.InSteps.{InStep, in_step}

pub data Steady {S : Type 0} (me : Address) (old new : MemberState S) : Type 0 where
  Same : new.view_state ≡ old.view_state → Steady me old new
  Fresh : (w : View) → new.view_state ≡ Some (fresh_in me w) → Steady me old new

module _ {S : Type 0} (who : Who) where
  pub steady-then : (a b c : MemberState S) → Steady who.address a b → Steady who.address b c → Steady who.address a c
  steady-then a b c (Same x) (Same y) = Same (y ∙ x)
  steady-then a b c (Fresh w x) (Same y) = Fresh w (y ∙ x)
  steady-then a b c x (Fresh w y) = Fresh w y

  stays : (old new : InStep S) → StaysAs old new → Steady who.address old.member new.member
  stays old new x = Same (ap (λ (l : MemberState S). l.view_state) x.0)

  -- where a test fails it stays as it is
  or-stays : (b : Bool) (P : Type 0) (old new : InStep S) → (P → Steady who.address old.member new.member) → MatchBool b P (StaysAs old new) → Steady who.address old.member new.member
  or-stays true P old new does x = does x
  or-stays false P old new does x = stays old new x

  module _ (meaning : Meaning S) where
    begins : (w : View) (old new : InStep S) → Begins who w old new → Steady who.address old.member new.member
    begins w old new x = Same (ap (λ (l : MemberState S). l.view_state) x.member_state)

    begins-by : (o : Option View) (old new : InStep S) → MatchOption o (StaysAs old new) (λ w. Begins who w old new) → Steady who.address old.member new.member
    begins-by None old new x = stays old new x
    begins-by (Some w) old new x = begins w old new x

    finishes-at : (view_state : Option ViewState) (f : FlushModel) (old new : InStep S) → MatchOption view_state ⊥ (λ t. FinishesAndProposes meaning who f t old new) → Steady who.address old.member new.member
    finishes-at None f old new x = absurd x
    finishes-at (Some t) f old new x =
        steady-then old.member x.mid.member new.member (Fresh (proposed f) (ap (λ (l : MemberState S). l.view_state) x.finishes.member_state))
        (begins-by (due_proposal (core_of who.address x.mid.member) x.mid.member.notes) x.mid new x.proposes)

    finishes-by : (o : Option FlushModel) (old new : InStep S)
        → MatchOption o (StaysAs old new)
        (λ f. MatchBool (is_complete f) (MatchOption old.member.view_state ⊥ (λ t. FinishesAndProposes meaning who f t old new)) (StaysAs old new)) → Steady who.address old.member new.member
    finishes-by None old new x = stays old new x
    finishes-by (Some f) old new x =
        or-stays (is_complete f) (MatchOption old.member.view_state ⊥ (λ t. FinishesAndProposes meaning who f t old new)) old new (finishes-at old.member.view_state f old new) x

    goes-on : (old new : InStep S) → GoesOn meaning who old new → Steady who.address old.member new.member
    goes-on old new x = finishes-by old.member.flush old new x

    goes-on-by : (o : Option View) (old new : InStep S) → MatchOption o (StaysAs old new) (λ w. BeginsAndGoesOn meaning who w old new) → Steady who.address old.member new.member
    goes-on-by None old new x = stays old new x
    goes-on-by (Some w) old new x = steady-then old.member x.mid.member new.member (begins w old x.mid x.begins) (goes-on x.mid new x.goes_on)

    pub regroups : (old new : InStep S) → Regroups meaning who old new → Steady who.address old.member new.member
    regroups old new x = goes-on-by (due_proposal (core_of who.address old.member) old.member.notes) old new x

    -- from a life that keeps the same of its view
    from : (old mid new : MemberState S) → mid.view_state ≡ old.view_state → Steady who.address mid new → Steady who.address old new
    from old mid new e x = steady-then old mid new (Same e) x

    takes-by : (a : OfferAnswer) (w : View) (old new : InStep S) → TakesBy who a w old new → Steady who.address old.member new.member
    takes-by Accept w old new x = Same (ap (λ (l : MemberState S). l.view_state) x.member_state)
    takes-by (Behind counter) w old new x = Same (ap (λ (l : MemberState S). l.view_state) x.0)
    takes-by Ignore w old new x = stays old new x

    behind : (counter : ℕ) (old new : InStep S) → TakesBehind meaning who counter old new → Steady who.address old.member new.member
    behind counter old new x =
        let heard = record (old.member) { notes = having_heard counter old.member.notes } in from old.member heard new.member (λ i. old.member.view_state)
        (goes-on-by (anew_proposal who.address heard) (in_step heard old.out) new x)

    entry-by : (b : Bool) (A : Type 0) (i : wire.Install) (given : Option (List ℕ)) (old new : InStep S)
        → MatchBool b (A × Enters meaning who old.member.view_state i given old new) (StaysAs old new) → Steady who.address old.member new.member
    entry-by true A i given old new x = Fresh i.view (ap (λ (l : MemberState S). l.view_state) x.1.member_state)
    entry-by false A i given old new x = stays old new x

    -- ---- by the packet that came, or the input

    pub install-steady : (q : Address) (i : wire.Install) (old new : InStep S) → TakesInstall meaning who q i old new → Steady who.address old.member new.member
    install-steady q i old new x = entry-by (would_enter who.address old.member q i) _ i (given_in i.state old.member.chunks) old new x

    pub chunk-steady : (q : Address) (w : ViewId) (chunk : wire.Chunk) (old new : InStep S) → TakesChunk q w chunk old new → Steady who.address old.member new.member
    chunk-steady q w chunk old new x =
        or-stays (would_hold q w chunk old.member) ((new.member ≡ record (old.member) { chunks = old.member.chunks ++ chunk ∷ [] }) × (new.out ≡ old.out)) old new
        (λ y. Same (ap (λ (l : MemberState S). l.view_state) y.0)) x

    announces : (p : Address) (old new : InStep S) → AnnouncesView who p old new → Steady who.address old.member new.member
    announces p old new x = Same (ap (λ (l : MemberState S). l.view_state) x.member_state)

    admits-by : (b : Bool) (q : Address) (old l new : MemberState S) (out later : Output) → l.view_state ≡ old.view_state
        → MatchBool b (Regroups meaning who (in_step (joined who.address q l) out) (in_step new later)) (Redirects who q (in_step l out) (in_step new later)) → Steady who.address old new
    admits-by true q old l new out later e x = from old (joined who.address q l) new e (regroups (in_step (joined who.address q l) out) (in_step new later) x)
    admits-by false q old l new out later e x = Same (ap (λ (z : MemberState S). z.view_state) x.member_state ∙ e)

    pub join-steady : (q : Address) (old new : InStep S) → OnJoin meaning who q old new → Steady who.address old.member new.member
    join-steady q old new x =
        let now = outdated who.address q old.member in
        or-stays (is_some old.member.view_state) (Admits meaning who q (in_step now old.out) new) old new (admits-by (leads_now who.address now) q old.member now new.member old.out new.out (λ i. old.member.view_state)) x

    pub suspect-steady : (p : Address) (old new : InStep S) → OnSuspect meaning who p old new → Steady who.address old.member new.member
    suspect-steady p old new x =
        let noted = record (old.member) { notes = suspecting p old.member.notes } in
        or-stays (is_suspectable who.address p old.member) (TakesSuspicion meaning who p old new) old new (λ y. from old.member noted new.member (λ i. old.member.view_state) (regroups (in_step noted old.out) new y)) x

    pub flush-steady : (q : Address) (w : View) (old new : InStep S) → OnFlush who q w old new → Steady who.address old.member new.member
    flush-steady q w old new x = or-stays (same_address w.id.creator q) (TakesFlush who w old new) old new (takes-by (offered w old.member.promise) w old new) x

    pub behind-steady : (w : ViewId) (counter : ℕ) (old new : InStep S) → OnBehind meaning who w counter old new → Steady who.address old.member new.member
    behind-steady w counter old new x = or-stays (is_proposing w old.member) (TakesBehind meaning who counter old new) old new (behind counter old new) x

    report-by : (b d : Bool) (q : Address) (w : ViewId) (r : wire.Report) (old new : InStep S)
        → MatchBool b (TakesReport meaning who q w r old new) (MatchBool d (SaysAgain who q old new) (StaysAs old new)) → Steady who.address old.member new.member
    report-by true d q w r old new x =
        let recorded = record (old.member) { flush = option_map (recording q w r) old.member.flush } in from old.member recorded new.member (λ i. old.member.view_state) (goes-on (in_step recorded old.out) new x)
    report-by false d q w r old new x = or-stays d (SaysAgain who q old new) old new (λ y. Same (ap (λ (l : MemberState S). l.view_state) y.member_state)) x

    pub report-steady : (q : Address) (w : ViewId) (r : wire.Report) (old new : InStep S) → OnReport meaning who q w r old new → Steady who.address old.member new.member
    report-steady q w r old new x = report-by (expects q w old.member) (is_in w old.member) q w r old new x

    meets-by : (b : Bool) (q : Address) (u : View) (old new : InStep S)
        → MatchBool b (AnnouncesView who q old new) (Regroups meaning who (in_step (merged who.address u old.member) old.out) new) → Steady who.address old.member new.member
    meets-by true q u old new x = announces q old new x
    meets-by false q u old new x = from old.member (merged who.address u old.member) new.member (λ i. old.member.view_state) (regroups (in_step (merged who.address u old.member) old.out) new x)

    merge-in : (b : Bool) (q : Address) (u : View) (old new : InStep S)
        → MatchBool b (Meets meaning who q u old new) (Redirects who q old new) → Steady who.address old.member new.member
    merge-in true q u old new x = meets-by (is_less q who.address) q u old new x
    merge-in false q u old new x = Same (ap (λ (l : MemberState S). l.view_state) x.member_state)

    pub merge-steady : (q : Address) (u : View) (old new : InStep S) → OnMerge meaning who q u old new → Steady who.address old.member new.member
    merge-steady q u old new x =
        or-stays (is_some old.member.view_state && not (has_member q old.member)) (MatchBool (leads_now who.address old.member) (Meets meaning who q u old new) (Redirects who q old new)) old new
        (merge-in (leads_now who.address old.member) q u old new) x
