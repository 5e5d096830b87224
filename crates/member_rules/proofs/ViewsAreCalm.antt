-- In a change of view at most `WINDOW` + 3 events happen, none of which an input asks for by itself.
use Rattle.std.proofs.Common.{◌≡◌, ℕ, ◌+◌, ◌-◌, ◌≤◌, Bool, true, false, Option, Some, None, List, [], ◌∷◌, ◌++◌, map, refl, sym, ap, ap₂, ◌∙◌, subst, is_some, ◌&&◌, not, length, arith}
use Rattle.std.specs.Prelude.{MatchBool, MatchOption, if◌then◌else◌}
use Rattle.std.specs.Option.{option_map}
use Rattle.std.specs.List.{list_all}
use Rattle.std.proofs.lemmas.List.{append-nil, length-append, length-drop, length-map}
use Rattle.std.proofs.lemmas.List.Folds.{list_all-append}
use Rattle.address.specs.Ids.{Address, ViewId, same_address}
use Rattle.view.specs.Members.{View}
use Rattle.address.specs.declared.limits.TheConstants.{WINDOW}
use Rattle.wire_values.specs.Values.{Report}
use Rattle.wire_values.specs.Values as wire
use Rattle.wire_values.specs.Posted.{Posted}
use Rattle.state_transfer.specs.Meanings.{Meaning}
use Rattle.trace_props.specs.declared.event.Event.{Event}
use Rattle.trace_props.specs.declared.event.Event.TheVariants.{Blocked}
use Rattle.flush.specs.Flushes.{FlushModel, group}
use Rattle.view_install.specs.declared.promise.OfferAnswer.{OfferAnswer}
use Rattle.view_install.specs.declared.promise.OfferAnswer.TheVariants.{Accept, Behind, Ignore}
use Rattle.view_install.specs.Promises.{offered}
use Rattle.law_acts.specs.Cores.{is_open}
use Rattle.law_acts.specs.Acts.{delivery}
use Rattle.law_acts.specs.Decisions.{due_proposal, cuts_of}
use Rattle.membership.specs.HeldChunks.{given_in}
use Rattle.step_output.specs.declared.output.Output.{Output}
use Rattle.step_output.specs.Outputs.{Grows}
use Rattle.step_output.specs.Calm.{is_quiet, IsCalm}
use Rattle.step_output.proofs.CalmAdds.{calm-nothing, calm-grown, calm-then, calm-wider}
use Rattle.traffic.specs.declared.view_state.ViewState.{ViewState}
use Rattle.traffic.specs.ViewStates.{view_of, view_core_of}
use Rattle.membership.specs.declared.member_state.MemberState.{MemberState}
use Rattle.next_view.specs.ViewNotes.{having_heard, suspecting}
use Rattle.membership.specs.MemberStates.{core_of, is_complete, recording, anew_proposal, view_in, blocked_by, would_hold}
use Rattle.membership.specs.Installs.{delivered_by, lacking, finish_events, enter_events}
use Rattle.membership.specs.Changes.{StaysAs, TakesBy, TakesFlush, BeginsAndGoesOn, Begins, FinishesAndProposes, GoesOn, Regroups, TakesReport, TakesBehind, TakesSuspicion, TakesInstall, TakesChunk, would_enter, Enters}
use Rattle.member_rules.specs.Views.{OnJoin, OnRedirect, OnSuspect, OnFlush, OnBehind, OnReport, OnMerge, Asks, Redirects, SaysAgain, Admits, Meets, AnnouncesView, outdated, joined, merged, leads_now, has_member, is_less, is_suspectable, is_proposing, expects, is_in}
use Rattle.flush.proofs.FewItems.{cut-few}
use Rattle.step_output.specs.Steps.{Who}
use Rattle.membership.specs.InSteps.{InStep, in_step}
use Rattle.member_rules.proofs.MessagesAreCalm.{deliveries-quiet}

-- ---- how much is delivered at most

delivered_by-few : (f : FlushModel) (t : ViewState) → length (delivered_by f t) ≤ WINDOW
delivered_by-few f t =
    let items = (cuts_of f).items (view_of t).id in
    let a = length-drop ((view_core_of t).delivered - (cuts_of f).base (view_of t).id) items in
    let b = cut-few (group (Some (view_of t).id) f.reports) in
    omega (arith, a, b)

-- ---- what is delivered is quiet

quiet-then : (hs : List Event) (h : Event) → list_all is_quiet hs ≡ true → is_quiet h ≡ true → list_all is_quiet (hs ++ h ∷ []) ≡ true
quiet-then hs h x y = list_all-append is_quiet hs (h ∷ []) ∙ ap₂ (λ a b. a && (b && true)) x y

one-more : (hs : List Event) (h : Event) (n : ℕ) → length hs ≤ n → length (hs ++ h ∷ []) ≤ n + 1
one-more hs h n few = let e : length (hs ++ h ∷ []) ≡ length hs + length (h ∷ []) = length-append hs (h ∷ []) in omega (arith, e, few)

blocked-few : (b : Bool) (p : Address) → length (if b then Blocked p ∷ [] else []) ≤ 1
blocked-few true p = omega (arith)
blocked-few false p = omega (arith)

blocked-quiet : (b : Bool) (p : Address) → list_all is_quiet (if b then Blocked p ∷ [] else []) ≡ true
blocked-quiet true p = refl
blocked-quiet false p = refl

silent : (group : List ℕ) (n : ℕ) (ps : List Posted) (out later : Output) → Grows group out later ps [] → IsCalm n out later
silent group n ps out later g = calm-grown group n out later ps [] g (omega (arith)) refl

module _ {S : Type 0} (who : Who) where
  stays : (n : ℕ) (old new : InStep S) → StaysAs old new → IsCalm n old.out new.out
  stays n old new x = subst (λ (z : Output). IsCalm n old.out z) (sym x.1) (calm-nothing n old.out)

  -- where a test fails it stays as it is
  or-stays : {n : ℕ} (b : Bool) (P : Type 0) (old new : InStep S) → (P → IsCalm n old.out new.out) → MatchBool b P (StaysAs old new) → IsCalm n old.out new.out
  or-stays true P old new does x = does x
  or-stays false P old new does x = stays _ old new x

  blocked : (ps : List Posted) (old : MemberState S) (out later : Output) → Grows who.group out later ps (blocked_by who.address old) → IsCalm 1 out later
  blocked ps old out later g = let b = is_open (view_in old.view_state) old.promise.is_installed in calm-grown who.group 1 out later ps (blocked_by who.address old) g (blocked-few b who.address) (blocked-quiet b who.address)

  module _ (meaning : Meaning S) where
    begins-by : (o : Option View) (old new : InStep S) → MatchOption o (StaysAs old new) (λ w. Begins who w old new) → IsCalm 1 old.out new.out
    begins-by None old new x = stays 1 old new x
    begins-by (Some w) old new x = blocked _ old.member old.out new.out x.grows

    finishes-events : (f : FlushModel) (t : ViewState) → length (finish_events who.address f t) ≤ WINDOW + 1
    finishes-events f t =
        let e = length-map (delivered_by f t) (delivery who.address (view_of t).id) in
        let k = delivered_by-few f t in
        one-more (map (delivery who.address (view_of t).id) (delivered_by f t)) _ WINDOW (omega (arith, e, k))

    finishes-at : (view_state : Option ViewState) (f : FlushModel) (old new : InStep S) → MatchOption view_state ⊥ (λ t. FinishesAndProposes meaning who f t old new) → IsCalm (WINDOW + 2) old.out new.out
    finishes-at None f old new x = absurd x
    finishes-at (Some t) f old new x =
        let quiet = quiet-then (map (delivery who.address (view_of t).id) (delivered_by f t)) _ (deliveries-quiet who.address (view_of t).id (delivered_by f t)) refl in
        calm-then (WINDOW + 1) 1 old.out x.mid.out new.out (calm-grown who.group (WINDOW + 1) old.out x.mid.out _ (finish_events who.address f t) x.finishes.grows (finishes-events f t) quiet)
        (begins-by (due_proposal (core_of who.address x.mid.member) x.mid.member.notes) x.mid new x.proposes)

    finishes-by : (o : Option FlushModel) (old new : InStep S)
        → MatchOption o (StaysAs old new)
        (λ f. MatchBool (is_complete f) (MatchOption old.member.view_state ⊥ (λ t. FinishesAndProposes meaning who f t old new)) (StaysAs old new)) → IsCalm (WINDOW + 2) old.out new.out
    finishes-by None old new x = stays (WINDOW + 2) old new x
    finishes-by (Some f) old new x =
        or-stays (is_complete f) (MatchOption old.member.view_state ⊥ (λ t. FinishesAndProposes meaning who f t old new)) old new (finishes-at old.member.view_state f old new) x

    goes-on : (old new : InStep S) → GoesOn meaning who old new → IsCalm (WINDOW + 2) old.out new.out
    goes-on old new x = finishes-by old.member.flush old new x

    goes-on-by : (o : Option View) (old new : InStep S) → MatchOption o (StaysAs old new) (λ w. BeginsAndGoesOn meaning who w old new) → IsCalm (WINDOW + 3) old.out new.out
    goes-on-by None old new x = stays (WINDOW + 3) old new x
    goes-on-by (Some w) old new x = calm-then 1 (WINDOW + 2) old.out x.mid.out new.out (blocked _ old.member old.out x.mid.out x.begins.grows) (goes-on x.mid new x.goes_on)

    pub regroups : (old new : InStep S) → Regroups meaning who old new → IsCalm (WINDOW + 3) old.out new.out
    regroups old new x = goes-on-by (due_proposal (core_of who.address old.member) old.member.notes) old new x

    takes-by : (a : OfferAnswer) (w : View) (old new : InStep S) → TakesBy who a w old new → IsCalm (WINDOW + 3) old.out new.out
    takes-by Accept w old new x = calm-wider 1 (WINDOW + 3) old.out new.out (omega (arith)) (blocked _ old.member old.out new.out x.grows)
    takes-by (Behind counter) w old new x = silent who.group (WINDOW + 3) _ old.out new.out x.1
    takes-by Ignore w old new x = stays (WINDOW + 3) old new x

    behind : (counter : ℕ) (old new : InStep S) → TakesBehind meaning who counter old new → IsCalm (WINDOW + 3) old.out new.out
    behind counter old new x =
        let heard = record (old.member) { notes = having_heard counter old.member.notes } in goes-on-by (anew_proposal who.address heard) (in_step heard old.out) new x

    enters-in : (view_state : Option ViewState) (i : wire.Install) (given : Option (List ℕ)) → length i.items ≤ WINDOW
        → (length (enter_events who.address view_state i given) ≤ WINDOW + 1) × (list_all is_quiet (enter_events who.address view_state i given) ≡ true)
    enters-in None i given few = (omega (arith), refl)
    enters-in (Some t) i given few =
        let l = lacking (Some t) i in
        let a = length-drop ((view_core_of t).delivered - i.base) i.items in
        let e = length-map l (delivery who.address (view_of t).id) in
        (one-more (map (delivery who.address (view_of t).id) l) _ WINDOW (omega (arith, e, a, few)), quiet-then (map (delivery who.address (view_of t).id) l) _ (deliveries-quiet who.address (view_of t).id l) refl)

    entry-by : (b : Bool) (A : Type 0) (i : wire.Install) (given : Option (List ℕ)) (old new : InStep S) → length i.items ≤ WINDOW
        → MatchBool b (A × Enters meaning who old.member.view_state i given old new) (StaysAs old new) → IsCalm (WINDOW + 3) old.out new.out
    entry-by true A i given old new few x =
        let k = enters-in old.member.view_state i given few in
        calm-wider (WINDOW + 1) (WINDOW + 3) old.out new.out (omega (arith)) (calm-grown who.group (WINDOW + 1) old.out new.out [] (enter_events who.address old.member.view_state i given) x.1.grows k.0 k.1)
    entry-by false A i given old new few x = stays (WINDOW + 3) old new x

    -- ---- by the packet that came, or the input

    pub install-calm : (q : Address) (i : wire.Install) (old new : InStep S) → length i.items ≤ WINDOW → TakesInstall meaning who q i old new → IsCalm (WINDOW + 3) old.out new.out
    install-calm q i old new few x = entry-by (would_enter who.address old.member q i) _ i (given_in i.state old.member.chunks) old new few x

    pub chunk-calm : (q : Address) (w : ViewId) (chunk : wire.Chunk) (old new : InStep S) → TakesChunk q w chunk old new → IsCalm (WINDOW + 3) old.out new.out
    chunk-calm q w chunk old new x =
        or-stays (would_hold q w chunk old.member) ((new.member ≡ record (old.member) { chunks = old.member.chunks ++ chunk ∷ [] }) × (new.out ≡ old.out)) old new
        (λ y. record { more = []; grows = ap (λ (o : Output). o.events.items) y.1 ∙ sym (append-nil old.out.events.items); few = omega (arith); quiet = refl }) x

    announces : (p : Address) (old new : InStep S) → AnnouncesView who p old new → IsCalm (WINDOW + 3) old.out new.out
    announces p old new x = silent who.group (WINDOW + 3) _ old.out new.out x.grows

    admits-by : (b : Bool) (q : Address) (l new : InStep S)
        → MatchBool b (Regroups meaning who (in_step (joined who.address q l.member) l.out) new) (Redirects who q l new) → IsCalm (WINDOW + 3) l.out new.out
    admits-by true q l new x = regroups (in_step (joined who.address q l.member) l.out) new x
    admits-by false q l new x = silent who.group (WINDOW + 3) _ l.out new.out x.grows

    pub join-calm : (q : Address) (old new : InStep S) → OnJoin meaning who q old new → IsCalm (WINDOW + 3) old.out new.out
    join-calm q old new x =
        let now = in_step (outdated who.address q old.member) old.out in
        or-stays (is_some old.member.view_state) (Admits meaning who q now new) old new (admits-by (leads_now who.address now.member) q now new) x

    redirect-in : (b : Bool) (c : Address) (old new : InStep S) → MatchBool b (AnnouncesView who c old new) (Asks who c old new) → IsCalm (WINDOW + 3) old.out new.out
    redirect-in true c old new x = announces c old new x
    redirect-in false c old new x = silent who.group (WINDOW + 3) _ old.out new.out x.grows

    redirect-by : (b : Bool) (c : Address) (old new : InStep S)
        → MatchBool b (StaysAs old new) (MatchBool (is_some old.member.view_state) (AnnouncesView who c old new) (Asks who c old new)) → IsCalm (WINDOW + 3) old.out new.out
    redirect-by true c old new x = stays (WINDOW + 3) old new x
    redirect-by false c old new x = redirect-in (is_some old.member.view_state) c old new x

    pub redirect-calm : (c : Address) (old new : InStep S) → OnRedirect who c old new → IsCalm (WINDOW + 3) old.out new.out
    redirect-calm c old new x = redirect-by (same_address c who.address) c old new x

    pub suspect-calm : (p : Address) (old new : InStep S) → OnSuspect meaning who p old new → IsCalm (WINDOW + 3) old.out new.out
    suspect-calm p old new x =
        or-stays (is_suspectable who.address p old.member) (TakesSuspicion meaning who p old new) old new (regroups (in_step (record (old.member) { notes = suspecting p old.member.notes }) old.out) new) x

    pub flush-calm : (q : Address) (w : View) (old new : InStep S) → OnFlush who q w old new → IsCalm (WINDOW + 3) old.out new.out
    flush-calm q w old new x = or-stays (same_address w.id.creator q) (TakesFlush who w old new) old new (takes-by (offered w old.member.promise) w old new) x

    pub behind-calm : (w : ViewId) (counter : ℕ) (old new : InStep S) → OnBehind meaning who w counter old new → IsCalm (WINDOW + 3) old.out new.out
    behind-calm w counter old new x = or-stays (is_proposing w old.member) (TakesBehind meaning who counter old new) old new (behind counter old new) x

    report-by : (b d : Bool) (q : Address) (w : ViewId) (r : wire.Report) (old new : InStep S)
        → MatchBool b (TakesReport meaning who q w r old new) (MatchBool d (SaysAgain who q old new) (StaysAs old new)) → IsCalm (WINDOW + 3) old.out new.out
    report-by true d q w r old new x = calm-wider (WINDOW + 2) (WINDOW + 3) old.out new.out (omega (arith)) (goes-on (in_step (record (old.member) { flush = option_map (recording q w r) old.member.flush }) old.out) new x)
    report-by false d q w r old new x =
        or-stays d (SaysAgain who q old new) old new (λ y. record { more = []; grows = y.again.events ∙ sym (append-nil old.out.events.items); few = omega (arith); quiet = refl }) x

    pub report-calm : (q : Address) (w : ViewId) (r : wire.Report) (old new : InStep S) → OnReport meaning who q w r old new → IsCalm (WINDOW + 3) old.out new.out
    report-calm q w r old new x = report-by (expects q w old.member) (is_in w old.member) q w r old new x

    meets-by : (b : Bool) (q : Address) (u : View) (old new : InStep S)
        → MatchBool b (AnnouncesView who q old new) (Regroups meaning who (in_step (merged who.address u old.member) old.out) new) → IsCalm (WINDOW + 3) old.out new.out
    meets-by true q u old new x = announces q old new x
    meets-by false q u old new x = regroups (in_step (merged who.address u old.member) old.out) new x

    merge-in : (b : Bool) (q : Address) (u : View) (old new : InStep S)
        → MatchBool b (Meets meaning who q u old new) (Redirects who q old new) → IsCalm (WINDOW + 3) old.out new.out
    merge-in true q u old new x = meets-by (is_less q who.address) q u old new x
    merge-in false q u old new x = silent who.group (WINDOW + 3) _ old.out new.out x.grows

    pub merge-calm : (q : Address) (u : View) (old new : InStep S) → OnMerge meaning who q u old new → IsCalm (WINDOW + 3) old.out new.out
    merge-calm q u old new x =
        or-stays (is_some old.member.view_state && not (has_member q old.member)) (MatchBool (leads_now who.address old.member) (Meets meaning who q u old new) (Redirects who q old new)) old new
        (merge-in (leads_now who.address old.member) q u old new) x
