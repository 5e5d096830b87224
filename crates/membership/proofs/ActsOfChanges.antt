-- Whatever a member does in a change of view is acts.
use Rattle.std.proofs.Common.{◌≡◌, ℕ, Bool, true, false, ◌&&◌, Option, Some, None, List, [], ◌∷◌, ◌++◌, map, length, ◌+◌, ◌-◌, ◌/◌, not, refl, sym, ap, ap₂, ◌∙◌, subst, ◌⊎◌, inl, inr, append_assoc}
use Rattle.std.specs.Prelude.{unwrap_or, if◌then◌else◌, MatchOption, MatchBool, find, slice_get}
use Rattle.std.specs.List.{AllByRecursion, Contains, flat_map, range_with_len}
use Rattle.std.specs.Option.{option_and_then, option_eq, option_map, option_map_or, option_to_list}
use Rattle.std.proofs.lemmas.Bool.{and_parts, cond-false, not-true}
use Rattle.std.proofs.lemmas.List.{append-nil, map-append}
use Rattle.std.proofs.lemmas.Option.{none-some, same_Some}
use Rattle.address.specs.declared.limits.TheConstants.{CHUNK}
use Rattle.address.specs.Ids.{Address, ViewId, same_address, same_view_id}
use Rattle.view.specs.Members.{View}
use Rattle.state_transfer.specs.Meanings.{Meaning}
use Rattle.next_view.specs.ViewNotes.{having_heard, suspecting}
use Rattle.wire_values.specs.Values as wire
use Rattle.wire_values.specs.Values.{Report, nothing_reported}
use Rattle.wire.specs.Packets.{IsPacket}
use Rattle.wire_values.specs.declared.packet.Body.TheVariants as bodies
use Rattle.wire_values.specs.declared.values.state.GivenState.{GivenState}
use Rattle.wire_values.specs.declared.values.state.GivenState.TheVariants as forms
use Rattle.wire_values.specs.Posted.{Posted, packet}
use Rattle.flush.specs.Flushes.{FlushModel, report_from, together_of, progress_of, is_awaited, reported}
use Rattle.flush.specs.declared.progress.Progress.TheVariants.{Waiting, Complete}
use Rattle.view_install.specs.Promises.{PromiseModel, offered, is_accept, promising, after_install, may_install}
use Rattle.view_install.specs.declared.promise.OfferAnswer.{OfferAnswer}
use Rattle.view_install.specs.declared.promise.OfferAnswer.TheVariants.{Accept, Behind, Ignore}
use Rattle.address.proofs.SameIds.{same_address-true, same_view_id-true}
use Rattle.view_install.proofs.ViewsRise.{only-the-promised}
use Rattle.law_acts.specs.Cores.{Core, id_of, install_sent_to}
use Rattle.law_acts.specs.Acts.{Puts, proposed, promised, others_of, instruction_for, instructions, instructing_one, base_for, items_for, gone_into, delivered_at, entering, state_into}
use Rattle.law_acts.specs.Given.{IsGiven, chunk_at, chunks_of}
use Rattle.law_acts.specs.Chains.{Acted}
use Rattle.law_acts.proofs.LawsOfActs.{one-acted, nothing-acted, then-acted}
use Rattle.law_acts.specs.Decisions.{promise_of, cuts_of, form_of, kept_of, is_entry, is_fitting, is_readable, due_proposal}
use Rattle.law_acts.proofs.ActsAreAllowed.{promises-acted, proposes-acted, records-acted, gathers-acted, finishes-acted, enters-acted}
use Rattle.step_output.specs.declared.output.Output.{Output}
use Rattle.step_output.specs.Outputs.{packet_in, spelled}
use Rattle.step_output.proofs.GrowthAdds.{all-then, grows-nothing}
use Rattle.membership.specs.HeldChunks.{is_new, is_there, given_in}
use Rattle.membership.proofs.HeldChunksJoin.{given-there, held-more}
use Rattle.traffic.specs.declared.view_state.ViewState.{ViewState}
use Rattle.traffic.specs.ViewStates.{view_of, fresh_in}
use Rattle.traffic.proofs.NewViewTraffic.{fresh-is, fresh-view}
use Rattle.membership.specs.declared.member_state.MemberState.{MemberState}
use Rattle.membership.specs.declared.sent_install.SentInstall.{SentInstall}
use Rattle.membership.specs.MemberStates.{core_of, view_in, view_core_in, sent_installs_in, is_connected, report_in, blocked_by, recording, is_complete, is_sent_to, anew_proposal, install_packet, sent_install, labelled, chunks_in, held_for, awaits, would_hold, begun_with, IsMemberState}
use Rattle.membership.specs.Installs.{instruction_to, instructing, finished_state, finished_given, finish_events, state_by, enter_events}
use Rattle.membership.specs.Changes.{StaysAs, TakesBy, TakesFlush, Begins, ProposesIf, BeginsAnew, BeginsAndGoesOn, Finishes, FinishesAndProposes, GoesOn, Regroups, TakesReport, state_packets, chunks_before, InstallsAgain, TakesChunk, TakesBehind, TakesSuspicion, Enters, would_enter, TakesInstall}
use Rattle.membership.specs.Doing.{Did}
use Rattle.membership.proofs.ActsInTurn.{nothing-did, stays-did, did-then, noted-did}
use Rattle.membership.proofs.InstallsReadBack.{kept-are, IsAgain, again-in}
use Rattle.membership.proofs.KeepMemberState.{given-sent, given-sound, installed_as, own-installed, other-installed, begun-member_state, finished-member_state, recorded-member_state}
use Rattle.membership.proofs.KeepNotes.{heard-member_state, suspected-member_state}
use Rattle.membership.proofs.ProposalsLead.{IsProposal, due-is-proposal, anew-is-proposal}
use Rattle.address.proofs.Plain.{match-bool}
use Rattle.step_output.specs.Steps.{Who}
use Rattle.membership.specs.InSteps.{InStep, in_step}

-- ---- what a flush says, in the words of agreement

instruction-by : (o : Option Report) (f : FlushModel) (v : ViewId) (form : GivenState) (together : List Address)
    → let r = unwrap_or o nothing_reported in
    let u = option_and_then (λ (x : Report). x.previous) o in
    ◌≡◌ {A = wire.Install} (record { view = proposed f; together = together; base = base_for (cuts_of f) r.previous; items = items_for (cuts_of f) r.previous; state = if option_eq same_view_id r.previous (Some v) then forms.Nothing else form })
    (record { view = proposed f; together = together; base = base_for (cuts_of f) u; items = items_for (cuts_of f) u; state = if option_eq same_view_id u (Some v) then forms.Nothing else form })
instruction-by None f v form together = refl
instruction-by (Some r) f v form together = refl

instructions-are : (f : FlushModel) (v : ViewId) (given : Option (List ℕ)) (others : List Address)
    → ◌≡◌ {A = List (Address × wire.Install)} (map (λ q. (q, instruction_for f (cuts_of f) v (form_of given) q)) others) (map (λ q. (q, instruction_to f v given q)) others)
instructions-are f v given [] = refl
instructions-are f v given (q ∷ others) =
    ap₂ (λ (i : wire.Install) (l : List (Address × wire.Install)). (q, i) ∷ l) (instruction-by (report_from q f.reports) f v (form_of given) (together_of q f)) (instructions-are f v given others)

packets-are : (me : Address) (f : FlushModel) (v : ViewId) (given : Option (List ℕ)) (others : List Address)
    → flat_map (instructing_one me f.proposal (unwrap_or given [])) (map {B = Address × wire.Install} (λ q. (q, instruction_for f (cuts_of f) v (form_of given) q)) others) ≡ flat_map (instructing me f v given) others
packets-are me f v given [] = refl
packets-are me f v given (q ∷ others) =
    ap₂ (λ (i : wire.Install) (l : List Posted). instructing_one me f.proposal (unwrap_or given []) (q, i) ++ l) (instruction-by (report_from q f.reports) f v (form_of given) (together_of q f))
    (packets-are me f v given others)

complete-is : (f : FlushModel) → is_complete f ≡ true → progress_of f ≡ Complete
complete-is f e = ap (λ b. if b then Complete else Waiting) e

-- ---- the chunks that are held

-- those of what is promised again, in the words of agreement
chunks-by : (b : Bool) (w u : View) (chunks : List wire.Chunk) → same_view_id u.id w.id ≡ b → labelled w.id (if b then chunks else []) ≡ (if b then labelled u.id chunks else [])
chunks-by true w u chunks e = ap (λ (i : ViewId). labelled i chunks) (sym (same_view_id-true u.id w.id e))
chunks-by false w u chunks e = refl

chunks-promised : (w : View) (o : Option View) (chunks : List wire.Chunk)
    → labelled w.id (if option_eq same_view_id (id_of o) (Some w.id) then chunks else []) ≡ (if option_eq same_view_id (id_of o) (Some w.id) then option_map_or (λ u. labelled u.id chunks) o [] else [])
chunks-promised w None chunks = refl
chunks-promised w (Some u) chunks = chunks-by (same_view_id u.id w.id) w u chunks refl

-- the id of what it promised
id-by : (o : Option View) (w : ViewId) → option_eq same_view_id (id_of o) (Some w) ≡ true → id_of o ≡ Some w
id-by None w e = absurd (let n : false ≡ true = e in cc)
id-by (Some u) w e = ap Some (same_view_id-true u.id w e)

-- one chunk more
held-by : (o : Option View) (w : ViewId) (chunks : List wire.Chunk) (chunk : wire.Chunk) → id_of o ≡ Some w → (k : ℕ) (x : ViewId × wire.Chunk)
    → slice_get (option_map_or (λ u. labelled u.id (chunks ++ chunk ∷ [])) o []) k ≡ Some x → Contains (option_map_or (λ u. labelled u.id chunks) o [] ++ (w, chunk) ∷ []) x
held-by None w chunks chunk e k x at = absurd (none-some w e)
held-by (Some u) w chunks chunk e k x at = subst (λ (i : ViewId). Contains (labelled u.id chunks ++ (i, chunk) ∷ []) x) (same_Some u.id w e) (held-more chunks u.id chunk k x at)

-- ---- what a relation by cases says

match-option : {X P : Type 0} (o : Option X) (A : Type 0) (B : X → Type 0) → MatchOption o A B → (A → P) → ((x : X) → o ≡ Some x → B x → P) → P
match-option None A B m none some = none m
match-option (Some x) A B m none some = some x refl m

module _ {S : Type 0} (meaning : Meaning S) (who : Who) where
  abbrev pub DidThis : Option Posted → InStep S → InStep S → Type 0
  DidThis came old new = Did meaning came who old new

  -- ---- a FLUSH

  ours : (l : MemberState S) → IsMemberState who l → l.promise ≡ promise_of (core_of who.address l)
  ours l kept = ap (λ (p : Address). record { member = p; proposal = l.promise.proposal; is_installed = l.promise.is_installed }) kept.own

  -- a proposal is promised, and of the chunks those of it are held on
  core-promised : (l : MemberState S) (w : View) (flush : Option FlushModel)
      → core_of who.address (record l { promise = promising w l.promise; flush = flush; chunks = held_for w l }) ≡ promised w flush (core_of who.address l)
  core-promised l w flush = λ j. record (promised w flush (core_of who.address l)) { chunks = chunks-promised w l.promise.proposal l.chunks j }

  pub promised-acted : (came : Option Posted) (l new : MemberState S) (w : View) → IsMemberState who l → is_connected l ≡ true → came ≡ Some (packet w.id.creator (bodies.Flush w) who.address)
      → is_accept (offered w l.promise) ≡ true → new ≡ record l { promise = promising w l.promise; flush = None; chunks = held_for w l }
      → Acted meaning came (Some (core_of who.address l)) (packet who.address (bodies.Report w.id (report_in l)) w.id.creator ∷ []) (blocked_by who.address l) (Some (core_of who.address new))
  promised-acted came l new w kept on asked accepts is =
      subst (λ (c : Core S). Acted meaning came (Some (core_of who.address l)) (packet who.address (bodies.Report w.id (report_in l)) w.id.creator ∷ []) (blocked_by who.address l) (Some c))
      (sym (ap (core_of who.address) is ∙ core-promised l w None))
      (promises-acted meaning came (core_of who.address l) w asked on (subst (λ (p : PromiseModel). is_accept (offered w p) ≡ true) (ours l kept) accepts))

  takes-by-did : (a : OfferAnswer) (came : Option Posted) (w : View) (old new : InStep S) → IsMemberState who old.member → is_connected old.member ≡ true
      → came ≡ Some (packet w.id.creator (bodies.Flush w) who.address) → offered w old.member.promise ≡ a → TakesBy who a w old new → DidThis came old new
  takes-by-did Accept came w old new kept on asked e x =
      record { posted = _; happened = _; grows = x.grows; acted = promised-acted came old.member new.member w kept on asked (ap is_accept e) x.member_state }
  takes-by-did (Behind n) came w old new kept on asked e x =
      subst (λ (z : MemberState S). DidThis came old (in_step z new.out)) (sym x.0)
      (record { posted = _; happened = _; grows = x.1; acted = one-acted meaning came (core_of who.address old.member) (Puts w.id.creator (bodies.Behind w.id n)) tt })
  takes-by-did Ignore came w old new kept on asked e x = stays-did meaning came who old new x.0 x.1

  pub takes-flush-did : (came : Option Posted) (w : View) (old new : InStep S) → IsMemberState who old.member → TakesFlush who w old new
      → came ≡ Some (packet w.id.creator (bodies.Flush w) who.address) → is_connected old.member ≡ true → DidThis came old new
  takes-flush-did came w old new kept x asked on = takes-by-did (offered w old.member.promise) came w old new kept on asked refl x

  -- ---- a flush of its own

  pub begins-did : (came : Option Posted) (w : View) (old new : InStep S) → IsMemberState who old.member → IsProposal who.address old.member w → Begins who w old new → DidThis came old new
  begins-did came w old new kept p b = record {
    posted = _;
    happened = _;
    grows = b.grows;
    acted = subst (λ (c : Core S). Acted meaning came (Some (core_of who.address old.member)) (map (packet who.address (bodies.Flush w)) (others_of who.address w.members)) (blocked_by who.address old.member) (Some c))
        (sym (ap (core_of who.address) b.member_state ∙ core-promised old.member w (Some (begun_with who.address w (report_in old.member))))) (proposes-acted meaning came (core_of who.address old.member) old.member.notes p.before w p.inside p.leads kept.unsuspected p.next).1;
  }

  pub proposes-did : (came : Option Posted) (old new : InStep S) → IsMemberState who old.member → ProposesIf who old new → DidThis came old new
  proposes-did came old new kept x =
      match-option (due_proposal (core_of who.address old.member) old.member.notes) (StaysAs old new) (λ w. Begins who w old new) x
      (λ s. stays-did meaning came who old new s.0 s.1)
      (λ w e b. begins-did came w old new kept (due-is-proposal who old.member w kept e) b)

  -- ---- a flush is finished

  -- a member whose flush and view are these
  finished-at : (came : Option Posted) (f : FlushModel) (t : ViewState) (old new : InStep S) → IsMemberState who old.member → old.member.flush ≡ Some f → is_complete f ≡ true
      → Finishes meaning who f t old new → DidThis came (in_step (record (old.member) { flush = Some f; view_state = Some t }) old.out) new
  finished-at came f t old new kept flush complete z =
      let x = kept.flushing f flush in
      let c = core_of who.address (record (old.member) { flush = Some f; view_state = Some t }) in
      let w = proposed f in
      let s = finished_state meaning f t old.member.receiver in
      let v = view_of t in
      let given = finished_given meaning f t old.member.receiver in
      let to_others = instructions c v f (cuts_of f) (form_of given) in
      let said : List (Address × wire.Install) = map (λ q. (q, instruction_to f v.id given q)) (others_of who.address f.members) in
      let a = finishes-acted meaning came c v f refl refl z.flush (complete-is f complete) in
      let sound = given-sound (λ m. IsPacket (packet_in who.group m)) who.address f v.id given (others_of who.address f.members) z.grows.sound in
      let same : sent_installs_in new.member.sent_installs.items ≡ to_others =
      ap sent_installs_in (z.sent_installs ∙ given-sent who f v.id given (others_of who.address f.members)) ∙ kept-are who said sound ∙ sym (instructions-are f v.id given (others_of who.address f.members)) in
      let promise : after_install w old.member.promise ≡ installed_as who.address w = own-installed who.address w old.member.promise kept.own x.promise x.waiting in
      let view : view_of (fresh_in who.address w) ≡ w = fresh-view who.address w in
      let view_state = fresh-is who.address w in
      let core : core_of who.address new.member ≡ gone_into w s to_others (kept_of given) c =
      ap (core_of who.address) z.member_state
      ∙ (λ j. record {
        me = who.address;
        connected = true;
        promise = (promise j).proposal;
        installed = (promise j).is_installed;
        view = Some (view j);
        view_state = view_state j;
        flush = None;
        sent_installs = same j;
        kept_state = kept_of given;
        chunks = option_map_or (λ u. labelled u.id []) (promise j).proposal [];
        state = s;
      }) in
      record {
        posted = _;
        happened = _;
        grows = z.grows;
        acted = subst (λ ps. Acted meaning came (Some c) ps (finish_events who.address f t) (Some (core_of who.address new.member))) (packets-are who.address f v.id given (others_of who.address f.members))
            (subst (λ (k : Core S). Acted meaning came (Some c) (flat_map (instructing_one who.address f.proposal (unwrap_or given [])) to_others) (finish_events who.address f t) (Some k)) (sym core) a);
      }

  finished-did : (came : Option Posted) (f : FlushModel) (t : ViewState) (old new : InStep S) → IsMemberState who old.member → old.member.flush ≡ Some f → old.member.view_state ≡ Some t → is_complete f ≡ true
      → Finishes meaning who f t old new → DidThis came old new
  finished-did came f t old new kept flush inside complete z =
      let same : old.member ≡ record (old.member) { flush = Some f; view_state = Some t } = λ j. record (old.member) { flush = flush j; view_state = inside j } in
      subst (λ (l : MemberState S). DidThis came (in_step l old.out) new) (sym same) (finished-at came f t old new kept flush complete z)

  -- whether it finishes or not
  pub finishes-either : {P : Type 0} (old new : InStep S) → GoesOn meaning who old new → (StaysAs old new → P)
      → ((f : FlushModel) (t : ViewState) → old.member.flush ≡ Some f → old.member.view_state ≡ Some t → is_complete f ≡ true → FinishesAndProposes meaning who f t old new → P) → P
  finishes-either old new x stays finishes =
      match-option old.member.flush (StaysAs old new)
      (λ f. MatchBool (is_complete f) (MatchOption old.member.view_state ⊥ (λ t. FinishesAndProposes meaning who f t old new)) (StaysAs old new)) x stays
      (λ f flush y. match-bool (is_complete f) (MatchOption old.member.view_state ⊥ (λ t. FinishesAndProposes meaning who f t old new)) (StaysAs old new) y
      (λ complete z. match-option old.member.view_state ⊥ (λ t. FinishesAndProposes meaning who f t old new) z (λ none. absurd none) (λ t inside done. finishes f t flush inside complete done))
      (λ waits s. stays s))

  pub goes-on-did : (came : Option Posted) (old new : InStep S) → IsMemberState who old.member → GoesOn meaning who old new → DidThis came old new
  goes-on-did came old new kept x =
      finishes-either old new x (λ s. stays-did meaning came who old new s.0 s.1)
      (λ f t flush inside complete z.
      did-then meaning came who old z.mid new (finished-did came f t old z.mid kept flush inside complete z.finishes)
      (proposes-did came z.mid new (finished-member_state who meaning f t old.member old.member z.mid.member old.out z.mid.out kept flush refl z.finishes) z.proposes))

  -- ---- it begins, and goes on

  begins-on-did : (came : Option Posted) (w : View) (old new : InStep S) → IsMemberState who old.member → IsProposal who.address old.member w → BeginsAndGoesOn meaning who w old new
      → DidThis came old new
  begins-on-did came w old new kept p x =
      did-then meaning came who old x.mid new (begins-did came w old x.mid kept p x.begins)
      (goes-on-did came x.mid new (begun-member_state who w (in_step old.member old.out) (in_step x.mid.member x.mid.out) kept p x.begins) x.goes_on)

  pub regroups-did : (came : Option Posted) (old new : InStep S) → IsMemberState who old.member → Regroups meaning who old new → DidThis came old new
  regroups-did came old new kept x =
      match-option (due_proposal (core_of who.address old.member) old.member.notes) (StaysAs old new) (λ w. BeginsAndGoesOn meaning who w old new) x
      (λ s. stays-did meaning came who old new s.0 s.1)
      (λ w e b. begins-on-did came w old new kept (due-is-proposal who old.member w kept e) b)

  pub begins-anew-did : (came : Option Posted) (old new : InStep S) → IsMemberState who old.member → BeginsAnew meaning who old new → DidThis came old new
  begins-anew-did came old new kept x =
      match-option (anew_proposal who.address old.member) (StaysAs old new) (λ w. BeginsAndGoesOn meaning who w old new) x
      (λ s. stays-did meaning came who old new s.0 s.1)
      (λ w e b. begins-on-did came w old new kept (anew-is-proposal who old.member w kept e) b)

  -- ---- a REPORT

  awaited-by : (b : Bool) (l : MemberState S) (f : FlushModel) (q : Address) (r : Report) (out : Output) → is_awaited q f ≡ b → l.flush ≡ Some f
      → DidThis (Some (packet q (bodies.Report f.proposal r) who.address)) (in_step l out) (in_step (record l { flush = Some (reported q r f) }) out)
  awaited-by true l f q r out e same = record {
    posted = [];
    happened = [];
    grows = grows-nothing who.group out;
    acted = records-acted meaning (Some (packet q (bodies.Report f.proposal r) who.address)) (core_of who.address l) f q r refl same e;
  }
  awaited-by false l f q r out e same =
      let is : Some (reported q r f) ≡ l.flush = ap Some (cond-false (is_awaited q f) (record f { reports = f.reports ++ (q, r) ∷ [] }) f e) ∙ sym same in
      subst (λ (o : Option FlushModel). DidThis (Some (packet q (bodies.Report f.proposal r) who.address)) (in_step l out) (in_step (record l { flush = o }) out)) (sym is) (nothing-did meaning _ who l out)

  own-by : (b : Bool) (l : MemberState S) (f : FlushModel) (q : Address) (w : ViewId) (r : Report) (out : Output) → same_view_id f.proposal w ≡ b → l.flush ≡ Some f
      → DidThis (Some (packet q (bodies.Report w r) who.address)) (in_step l out) (in_step (record l { flush = Some (if b then reported q r f else f) }) out)
  own-by true l f q w r out e same =
      subst (λ (u : ViewId). DidThis (Some (packet q (bodies.Report u r) who.address)) (in_step l out) (in_step (record l { flush = Some (reported q r f) }) out)) (same_view_id-true f.proposal w e)
      (awaited-by (is_awaited q f) l f q r out refl same)
  own-by false l f q w r out e same =
      subst (λ (o : Option FlushModel). DidThis (Some (packet q (bodies.Report w r) who.address)) (in_step l out) (in_step (record l { flush = o }) out)) same (nothing-did meaning _ who l out)

  flush-by : (flush : Option FlushModel) (l : MemberState S) (q : Address) (w : ViewId) (r : Report) (out : Output) → l.flush ≡ flush
      → DidThis (Some (packet q (bodies.Report w r) who.address)) (in_step l out) (in_step (record l { flush = option_map (recording q w r) flush }) out)
  flush-by None l q w r out e =
      subst (λ (o : Option FlushModel). DidThis (Some (packet q (bodies.Report w r) who.address)) (in_step l out) (in_step (record l { flush = o }) out)) e (nothing-did meaning _ who l out)
  flush-by (Some f) l q w r out e = own-by (same_view_id f.proposal w) l f q w r out refl e

  pub takes-report-did : (came : Option Posted) (q : Address) (w : ViewId) (r : Report) (old new : InStep S) → IsMemberState who old.member → TakesReport meaning who q w r old new
      → came ≡ Some (packet q (bodies.Report w r) who.address) → DidThis came old new
  takes-report-did came q w r old new kept x came_so =
      let mid = record (old.member) { flush = option_map (recording q w r) old.member.flush } in
      did-then meaning came who old (in_step mid old.out) new
      (subst (λ (m : Option Posted). DidThis m old (in_step mid old.out)) (sym came_so) (flush-by old.member.flush old.member q w r old.out refl))
      (goes-on-did came (in_step mid old.out) new (recorded-member_state who old.member mid q w r kept refl) x)

  -- ---- an INSTALL again

  -- chunks of the state that it gave
  chunks-put : (came : Option Posted) (q : Address) (l : MemberState S) (w : ViewId) (state : List ℕ) (ks : List ℕ) → l.sent_state ≡ Some state → id_of (view_in l.view_state) ≡ Some w
      → Acted meaning came (Some (core_of who.address l)) (map (λ chunk. packet who.address (bodies.State w chunk) q) (map (chunk_at state) ks)) [] (Some (core_of who.address l))
  chunks-put came q l w state [] kept inside = nothing-acted meaning came (Some (core_of who.address l))
  chunks-put came q l w state (k ∷ ks) kept inside =
      let c = core_of who.address l in
      then-acted meaning came (Some c) (Some c) (Some c) (packet who.address (bodies.State w (chunk_at state k)) q ∷ [])
      (map (λ chunk. packet who.address (bodies.State w chunk) q) (map (chunk_at state) ks)) [] []
      (one-acted meaning came c (Puts q (bodies.State w (chunk_at state k))) (state, kept, inside, refl)) (chunks-put came q l w state ks kept inside)

  state-put : (view : Option View) (sent : Option (List ℕ)) (came : Option Posted) (q : Address) (l : MemberState S) → view_in l.view_state ≡ view → l.sent_state ≡ sent
      → Acted meaning came (Some (core_of who.address l)) (option_map_or (λ v. option_map_or (λ state. map (λ chunk. packet who.address (bodies.State v.id chunk) q) (chunks_of state)) sent []) view []) [] (Some (core_of who.address l))
  state-put None sent came q l inside kept = nothing-acted meaning came (Some (core_of who.address l))
  state-put (Some v) None came q l inside kept = nothing-acted meaning came (Some (core_of who.address l))
  state-put (Some v) (Some state) came q l inside kept = chunks-put came q l v.id state (range_with_len 1 ((length state + (CHUNK - 1)) / CHUNK)) kept (ap id_of inside)

  before-by : (b : Bool) (came : Option Posted) (q : Address) (l : MemberState S)
      → Acted meaning came (Some (core_of who.address l)) (if b then state_packets who.address q l else []) [] (Some (core_of who.address l))
  before-by true came q l = state-put (view_in l.view_state) l.sent_state came q l refl refl
  before-by false came q l = nothing-acted meaning came (Some (core_of who.address l))

  again-by : (came : Option Posted) (q : Address) (l : MemberState S) (given : List (Address × wire.Install)) (o : Option SentInstall) (out later : Output) → sent_installs_in l.sent_installs.items ≡ given
      → later.packets.items ≡ (out.packets.items ++ map (spelled who.group) (chunks_before who.address q l o)) ++ map (λ s. s.packet) (option_to_list o) → later.events.items ≡ out.events.items
      → AllByRecursion (λ m. IsPacket (packet_in who.group m)) (chunks_before who.address q l o)
      → (o ≡ None) ⊎ IsAgain who q (view_in l.view_state) given o → DidThis came (in_step l out) (in_step l later)
  again-by came q l given o out later kept packets events sound (inl none) = record {
    posted = [];
    happened = [];
    grows = record {
      packets = packets ∙ ap (λ (x : Option SentInstall). (out.packets.items ++ map (spelled who.group) (chunks_before who.address q l x)) ++ map (λ s. s.packet) (option_to_list x)) none ∙ append-nil (out.packets.items ++ []);
      sound = tt;
      events = events ∙ sym (append-nil out.events.items);
      short = tt;
    };
    acted = nothing-acted meaning came (Some (core_of who.address l));
  }
  again-by came q l given o out later kept packets events sound (inr a) =
      let sent = sent_install who (a.to, a.install) in
      let c = core_of who.address l in
      let m = install_packet who.address (a.to, a.install) in
      let chunks = chunks_before who.address q l (Some sent) in
      record {
        posted = chunks ++ m ∷ [];
        happened = [];
        grows = record {
          packets = packets ∙ ap (λ (x : Option SentInstall). (out.packets.items ++ map (spelled who.group) (chunks_before who.address q l x)) ++ map (λ s. s.packet) (option_to_list x)) a.is
              ∙ append_assoc out.packets.items (map (spelled who.group) chunks) (sent.packet ∷ [])
              ∙ ap (λ x. out.packets.items ++ x) (sym (map-append (spelled who.group) chunks (m ∷ [])));
          sound = all-then (λ p. IsPacket (packet_in who.group p)) chunks (m ∷ []) (subst (λ (x : Option SentInstall). AllByRecursion (λ p. IsPacket (packet_in who.group p)) (chunks_before who.address q l x)) a.is sound) (a.sound, tt);
          events = events ∙ sym (append-nil out.events.items);
          short = tt;
        };
        acted = then-acted meaning came (Some c) (Some c) (Some c) chunks (m ∷ []) [] [] (before-by sent.in_chunks came q l)
            (one-acted meaning came c (Puts a.to (bodies.Install a.install))
            (a.current, ap (λ (p : Address). install_sent_to p (sent_installs_in l.sent_installs.items)) a.same ∙ ap (install_sent_to q) kept ∙ a.first));
      }

  pub installs-again-did : (came : Option Posted) (q : Address) (l : MemberState S) (out later : Output) → IsMemberState who l → InstallsAgain who q (in_step l out) later → DidThis came (in_step l out) (in_step l later)
  installs-again-did came q l out later kept x =
      let k = kept.sent_installs in
      let found = λ (items : List SentInstall). find (is_sent_to q) items in
      again-by came q l k.given (found (map (sent_install who) k.given)) out later (ap sent_installs_in k.spelled ∙ kept-are who k.given k.sound)
      (x.packets ∙ ap (λ items. (out.packets.items ++ map (spelled who.group) (chunks_before who.address q l (found items))) ++ map (λ s. s.packet) (option_to_list (found items))) k.spelled) x.events
      (subst (λ items. AllByRecursion (λ m. IsPacket (packet_in who.group m)) (chunks_before who.address q l (found items))) k.spelled x.sound)
      (again-in who q (view_in l.view_state) k.given k.sound k.current)

  -- ---- a STATE

  pub takes-chunk-did : (came : Option Posted) (q : Address) (w : ViewId) (chunk : wire.Chunk) (old new : InStep S) → TakesChunk q w chunk old new
      → came ≡ Some (packet q (bodies.State w chunk) who.address) → DidThis came old new
  takes-chunk-did came q w chunk old new x came_so =
      let l = old.member in
      match-bool (would_hold q w chunk l) ((new.member ≡ record l { chunks = l.chunks ++ chunk ∷ [] }) × (new.out ≡ old.out)) (StaysAs old new) x
      (λ holds y.
      let tests = and_parts (same_address q w.creator && awaits w l) (is_new chunk l.chunks) holds in
      let parts = and_parts (same_address q w.creator) (awaits w l) tests.0 in
      let waits = and_parts (option_eq same_view_id (id_of l.promise.proposal) (Some w)) (not l.promise.is_installed) parts.1 in
      let promised : id_of l.promise.proposal ≡ Some w = id-by l.promise.proposal w waits.0 in
      let c = core_of who.address l in
      let asked : came ≡ Some (packet w.creator (bodies.State w chunk) who.address) = came_so ∙ ap (λ (p : Address). Some (packet p (bodies.State w chunk) who.address)) (same_address-true q w.creator parts.0) in
      let more = record l { chunks = l.chunks ++ chunk ∷ [] } in
      subst (λ (z : MemberState S). DidThis came old (in_step z new.out)) (sym y.0) (subst (λ (o : Output). DidThis came old (in_step more o)) (sym y.1) (record {
        posted = [];
        happened = [];
        grows = grows-nothing who.group old.out;
        acted = gathers-acted meaning came c w chunk (chunks_in more) asked (promised, not-true l.promise.is_installed waits.1) (held-by l.promise.proposal w l.chunks chunk promised);
      })))
      (λ ignored s. stays-did meaning came who old new s.0 s.1)

  -- ---- a BEHIND, and a suspicion

  pub takes-behind-did : (came : Option Posted) (counter : ℕ) (old new : InStep S) → IsMemberState who old.member → TakesBehind meaning who counter old new
      → DidThis came old new
  takes-behind-did came counter old new kept x =
      let heard = record (old.member) { notes = having_heard counter old.member.notes } in
      let member_state = heard-member_state who old.member heard counter kept refl in
      did-then meaning came who old (in_step heard old.out) new (noted-did meaning came who old.member heard (having_heard counter old.member.notes) old.out refl)
      (begins-anew-did came (in_step heard old.out) new member_state x)

  pub takes-suspicion-did : (came : Option Posted) (p : Address) (old new : InStep S) → IsMemberState who old.member → TakesSuspicion meaning who p old new
      → same_address p who.address ≡ false → DidThis came old new
  takes-suspicion-did came p old new kept x other =
      let noted = record (old.member) { notes = suspecting p old.member.notes } in
      did-then meaning came who old (in_step noted old.out) new (noted-did meaning came who old.member noted (suspecting p old.member.notes) old.out refl)
      (regroups-did came (in_step noted old.out) new (suspected-member_state who old.member noted p kept other refl) x)

  -- ---- an INSTALL

  -- the chunks that it holds make the state that an INSTALL gives, where it would enter by it
  given-by : (q : Address) (i : wire.Install) (l : MemberState S) → IsMemberState who l → l.promise.proposal ≡ Some i.view → is_there i.state l.chunks ≡ true
      → IsGiven (chunks_in l) i.view.id i.state (given_in i.state l.chunks)
  given-by q i l kept promised there =
      subst (λ (o : Option View). IsGiven (option_map_or (λ u. labelled u.id l.chunks) o []) i.view.id i.state (given_in i.state l.chunks)) (sym promised) (given-there l.chunks i.view.id i.state kept.held there)

  entered-by : (view_state : Option ViewState) (came : Option Posted) (old : MemberState S) (i : wire.Install) (given : Option (List ℕ)) → let c = core_of who.address (record old { view_state = view_state }) in let last = delivered_at c i.base i.items in
      Acted meaning came (Some c) [] (entering c last i.view i.together given) (Some (gone_into i.view (state_into meaning c last given) [] None c))
      → Acted meaning came (Some c) [] (enter_events who.address view_state i given) (Some (gone_into i.view (state_by meaning view_state i given old.receiver) [] None c))
  entered-by None came old i given a = a
  entered-by (Some t) came old i given a = a

  -- what an entry says of what it promised
  pub entry-promised : (q : Address) (i : wire.Install) (l : MemberState S) → is_entry (core_of who.address l) q i ≡ true → may_install i.view (promise_of (core_of who.address l)) ≡ true
  entry-promised q i l enters =
      let parts = and_parts (same_address q i.view.id.creator && may_install i.view (promise_of (core_of who.address l))) (is_fitting (view_in l.view_state) (view_core_in l.view_state).delivered i) enters in
      (and_parts (same_address q i.view.id.creator) (may_install i.view (promise_of (core_of who.address l))) parts.0).1

  pub entry-given : (q : Address) (i : wire.Install) (l : MemberState S) → IsMemberState who l → would_enter who.address l q i ≡ true → IsGiven (chunks_in l) i.view.id i.state (given_in i.state l.chunks)
  entry-given q i l kept enters =
      let parts = and_parts (is_entry (core_of who.address l) q i) (is_there i.state l.chunks) enters in
      given-by q i l kept (only-the-promised i.view (promise_of (core_of who.address l)) (entry-promised q i l parts.0)).0 parts.1

  entered-did : (came : Option Posted) (q : Address) (i : wire.Install) (old new : InStep S) → IsMemberState who old.member → would_enter who.address old.member q i ≡ true
      → let given = given_in i.state old.member.chunks in is_readable meaning given ≡ true
      → came ≡ Some (packet q (bodies.Install i) who.address) → Enters meaning who old.member.view_state i given old new → DidThis came old new
  entered-did came q i old new kept enters reads came_so z =
      let c = core_of who.address old.member in
      let given = given_in i.state old.member.chunks in
      let s = state_by meaning old.member.view_state i given old.member.receiver in
      let entry = (and_parts (is_entry c q i) (is_there i.state old.member.chunks) enters).0 in
      let promise : after_install i.view old.member.promise ≡ installed_as who.address i.view =
      other-installed who.address i.view old.member.promise kept.own (subst (λ (p : PromiseModel). may_install i.view p ≡ true) (sym (ours old.member kept)) (entry-promised q i old.member entry)) in
      let view : view_of (fresh_in who.address i.view) ≡ i.view = fresh-view who.address i.view in
      let view_state = fresh-is who.address i.view in
      let bytes : sent_installs_in new.member.sent_installs.items ≡ [] = ap sent_installs_in z.sent_installs in
      let core : core_of who.address new.member ≡ gone_into i.view s [] None c =
      ap (core_of who.address) z.member_state
      ∙ (λ j. record {
        me = who.address;
        connected = true;
        promise = (promise j).proposal;
        installed = (promise j).is_installed;
        view = Some (view j);
        view_state = view_state j;
        flush = None;
        sent_installs = bytes j;
        kept_state = None;
        chunks = option_map_or (λ u. labelled u.id []) (promise j).proposal [];
        state = s;
      }) in
      record {
        posted = [];
        happened = _;
        grows = z.grows;
        acted = subst (λ (k : Core S). Acted meaning came (Some c) [] (enter_events who.address old.member.view_state i given) (Some k)) (sym core)
            (entered-by old.member.view_state came old.member i given (enters-acted meaning came c q i given came_so entry (entry-given q i old.member kept enters) reads));
      }

  pub takes-install-did : (came : Option Posted) (q : Address) (i : wire.Install) (old new : InStep S) → IsMemberState who old.member → TakesInstall meaning who q i old new
      → came ≡ Some (packet q (bodies.Install i) who.address) → DidThis came old new
  takes-install-did came q i old new kept x came_so =
      let given = given_in i.state old.member.chunks in
      match-bool (would_enter who.address old.member q i) ((is_readable meaning given ≡ true) × Enters meaning who old.member.view_state i given old new) (StaysAs old new) x
      (λ enters z. entered-did came q i old new kept enters z.0 came_so z.1)
      (λ ignored s. stays-did meaning came who old new s.0 s.1)
