-- What always holds of a member goes on to hold, whatever it does in a change of view.
use Rattle.std.proofs.Common.{◌≡◌, ℕ, Bool, true, false, cond, not, ◌&&◌, ◌||◌, Option, Some, None, List, [], ◌∷◌, ◌++◌, map, refl, sym, ap, ◌∙◌, subst, is_some}
use Rattle.std.specs.Prelude.{length, unwrap_or, IfSome, IsSome, MatchOption, MatchBool, if◌then◌else◌}
use Rattle.std.specs.Option.{ForSome, option_eq, option_map, option_map_or}
use Rattle.std.specs.List.{AllByRecursion, flat_map}
use Rattle.std.specs.Cmp.Lexicographic.{pointwise}
use Rattle.std.proofs.lemmas.Bool.{and_parts, cond-true, or_right}
use Rattle.std.proofs.lemmas.Option.{none-some, same_Some}
use Rattle.address.specs.Ids.{Address, ViewId, same_address, same_view_id}
use Rattle.view.specs.Members.{View, stands_in}
use Rattle.state_transfer.specs.Meanings.{Meaning}
use Rattle.next_view.specs.ViewNotes.{NotesModel}
use Rattle.wire_values.specs.Values as wire
use Rattle.wire.specs.Packets.{IsPacket}
use Rattle.flush.specs.Flushes.{FlushModel, is_awaited, has_reported, report_from}
use Rattle.view_install.specs.Promises.{PromiseModel, same_view, may_install, after_install, installing, promising}
use Rattle.view_install.proofs.ViewsRise.{only-the-promised}
use Rattle.address.proofs.SameIds.{same_view_id-refl, same_address-refl}
use Rattle.wire_values.specs.Chunks.{IsTotal}
use Rattle.wire_values.specs.Lists.{IsChunk}
use Rattle.wire_values.specs.Posted.{Posted}
use Rattle.law_acts.specs.Acts.{others_of, proposed, lone_view, chunk_packets}
use Rattle.law_acts.specs.Cores.{id_of}
use Rattle.law_acts.specs.Decisions.{is_fitting, is_entry}
use Rattle.step_output.specs.declared.output.Output.{Output}
use Rattle.step_output.specs.Outputs.{packet_in}
use Rattle.traffic.specs.declared.view_state.ViewState.{ViewState}
use Rattle.traffic.specs.ViewStates.{view_of, fresh_in}
use Rattle.traffic.proofs.NewViewTraffic.{fresh-view}
use Rattle.membership.specs.declared.member_state.MemberState.{MemberState}
use Rattle.membership.specs.MemberStates.{core_of, view_in, view_core_in, is_connected, report_in, begun_with, recording, is_complete, leads_in, idle_member, install_packet, sent_install, held_for, IsFlushing, IsKept, IsMemberState}
use Rattle.membership.specs.Installs.{instruction_to, instructing, finished_given}
use Rattle.membership.specs.Changes.{StaysAs, Begins, ProposesIf, Finishes, FinishesAndProposes, GoesOn, Enters}
use Rattle.membership.proofs.ProposalsLead.{IsProposal}
use Rattle.view.proofs.MembersListed.{coordinator-in}
use Rattle.step_output.specs.Steps.{Who, who}
use Rattle.membership.specs.InSteps.{InStep, in_step}

-- ---- small things

not-both : {P : Type 0} (b : Bool) → b ≡ true → b ≡ false → P
not-both b x y = absurd (let n : true ≡ false = sym x ∙ y in cc)

inside-some : (view_state : Option ViewState) (v : View) → view_in view_state ≡ Some v → IsSome view_state
inside-some None v e = absurd (none-some v e)
inside-some (Some t) v e = refl

connected-by : (view_state : Option ViewState) (b : Bool) → IsSome view_state → is_some view_state || b ≡ true
connected-by view_state b e = ap (λ x. x || b) e

-- who reported has reported when there are more reports
reported-more : (p : Address) (reports more : List (Address × wire.Report)) → has_reported p reports ≡ true → has_reported p (reports ++ more) ≡ true
reported-more p [] more e = absurd (let n : false ≡ true = e in cc)
reported-more p (x ∷ reports) more e = by (same_address p x.0) e (reported-more p reports more)
  where
    by : (b : Bool) → is_some (cond b (Some x.1) (report_from p reports)) ≡ true → (has_reported p reports ≡ true → has_reported p (reports ++ more) ≡ true)
        → is_some (cond b (Some x.1) (report_from p (reports ++ more))) ≡ true
    by true e later = refl
    by false e later = later e

-- ---- the promise of an own flush may be installed

all-same : (l : List Address) → pointwise same_address l l ≡ true
all-same [] = refl
all-same (x ∷ l) = ap (λ b. b && pointwise same_address l l) (same_address-refl x) ∙ all-same l

installs-own : (w : View) (p : PromiseModel) → p.proposal ≡ Some w → p.is_installed ≡ false → may_install w p ≡ true
installs-own w p promise waiting =
    ap (λ (o : Option View). option_map_or (λ v. same_view w v && not p.is_installed) o false) promise
    ∙ ap (λ b. same_view w w && not b) waiting
    ∙ ap (λ b. (b && pointwise same_address w.members w.members) && true) (same_view_id-refl w.id)
    ∙ ap (λ b. b && true) (all-same w.members)

-- a promise of a member that is installed
abbrev pub installed_as : Address → View → PromiseModel
installed_as me w = record { member = me; proposal = Some w; is_installed = true }

pub own-installed : (me : Address) (w : View) (p : PromiseModel) → p.member ≡ me → p.proposal ≡ Some w → p.is_installed ≡ false → after_install w p ≡ installed_as me w
own-installed me w p own promise waiting =
    cond-true (may_install w p) (installing p) p (installs-own w p promise waiting)
    ∙ ap (λ (q : Address). record { member = q; proposal = p.proposal; is_installed = true }) own
    ∙ ap (λ (o : Option View). record { member = me; proposal = o; is_installed = true }) promise

pub other-installed : (me : Address) (w : View) (p : PromiseModel) → p.member ≡ me → may_install w p ≡ true → after_install w p ≡ installed_as me w
other-installed me w p own may =
    let x = only-the-promised w p may in
    own-installed me w p own x.0 x.1

-- ---- what was kept

-- what was kept before it is kept with the same view
kept-on : {S : Type 0} (who : Who) (l new : MemberState S) → new.sent_installs ≡ l.sent_installs → new.sent_state ≡ l.sent_state → new.view_state ≡ l.view_state → IsKept who l → IsKept who new
kept-on who l new kept state view_state k = record {
  given = k.given;
  spelled = ap (λ v. v.items) kept ∙ k.spelled;
  sound = k.sound;
  current = subst (λ (t : Option ViewState). AllByRecursion (λ p. view_in t ≡ Some p.1.view) k.given) (sym view_state) k.current;
  state = subst (λ (o : Option (List ℕ)). IfSome o (λ bytes. IsTotal (length bytes))) (sym state) k.state;
}

-- no INSTALLs were kept
nothing-kept : {S : Type 0} (who : Who) (l : MemberState S) → l.sent_installs.items ≡ [] → IfSome l.sent_state (λ bytes. IsTotal (length bytes)) → IsKept who l
nothing-kept who l e total = record { given = []; spelled = e; sound = tt; current = tt; state = total }

-- each INSTALL of a flush, with whom it is for
abbrev pub given_by : FlushModel → ViewId → Option (List ℕ) → List Address → List (Address × wire.Install)
given_by f v given list = map (λ q. (q, instruction_to f v given q)) list

-- as they are kept
pub given-sent : (who : Who) (f : FlushModel) (v : ViewId) (given : Option (List ℕ)) (list : List Address)
    → map (λ q. sent_install who (q, instruction_to f v given q)) list ≡ map (sent_install who) (given_by f v given list)
given-sent who f v given [] = refl
given-sent who f v given (q ∷ list) = ap (λ l. sent_install who (q, instruction_to f v given q) ∷ l) (given-sent who f v given list)

-- what holds of all holds of one, and of those behind it
last-holds : (P : Posted → Type 0) (chunks : List Posted) (p : Posted) (rest : List Posted) → AllByRecursion P ((chunks ++ p ∷ []) ++ rest) → P p × AllByRecursion P rest
last-holds P [] p rest all = all
last-holds P (chunk ∷ chunks) p rest all = last-holds P chunks p rest all.1

-- where all that a flush says can be said, its INSTALLs can
pub given-sound : (P : Posted → Type 0) (me : Address) (f : FlushModel) (v : ViewId) (given : Option (List ℕ)) (list : List Address)
    → AllByRecursion P (flat_map (instructing me f v given) list) → AllByRecursion P (map (install_packet me) (given_by f v given list))
given-sound P me f v given [] all = tt
given-sound P me f v given (q ∷ list) all =
    let x = instruction_to f v given q in
    let both = last-holds P (chunk_packets me q f.proposal (unwrap_or given []) x.state) (install_packet me (q, x)) (flat_map (instructing me f v given) list) all in
    (both.0, given-sound P me f v given list both.1)

all-current : (f : FlushModel) (v : ViewId) (given : Option (List ℕ)) (list : List Address) (o : Option View) → o ≡ Some (proposed f) → AllByRecursion (λ p. o ≡ Some p.1.view) (given_by f v given list)
all-current f v given [] o e = tt
all-current f v given (q ∷ list) o e = (e, all-current f v given list o e)

-- ---- a first view of itself alone

outside : (view_state : Option ViewState) (b : Bool) → is_some view_state || b ≡ false → view_state ≡ None
outside None b e = refl
outside (Some t) b e = absurd (let n : true ≡ false = e in cc)

none-given : (view : Option View) (given : List (Address × wire.Install)) → view ≡ None → AllByRecursion (λ p. view ≡ Some p.1.view) given → given ≡ []
none-given view [] e all = refl
none-given view (p ∷ given) e all = absurd (none-some p.1.view (sym e ∙ all.0))

-- those that are held on are as they were
held-on : (b : Bool) (chunks : List wire.Chunk) → AllByRecursion IsChunk chunks → AllByRecursion IsChunk (if b then chunks else [])
held-on true chunks all = all
held-on false chunks all = tt

module _ {S : Type 0} (who : Who) where
  -- ---- at its start

  pub idle-is-member_state : (s : S) (l : MemberState S) → idle_member who.address s l → IsMemberState who l
  idle-is-member_state s l i =
      let none : l.promise.proposal ≡ None = ap (λ (p : PromiseModel). p.proposal) i.promise in
      record {
        own = ap (λ (p : PromiseModel). p.member) i.promise;
        unsuspected = ap (λ (b : NotesModel). stands_in who.address b.suspects) i.notes;
        inside = λ v e. absurd (none-some v (sym (ap view_in i.view_state) ∙ e));
        unconnected = λ e. none;
        listed = λ w e. absurd (none-some w (sym none ∙ e));
        waiting = λ e f w q. absurd (none-some w (sym none ∙ q));
        installed = λ e. not-both l.promise.is_installed e (ap (λ (p : PromiseModel). p.is_installed) i.promise);
        flushing = λ f e. absurd (none-some f (sym i.flush ∙ e));
        sent_installs = nothing-kept who l i.sent_installs (subst (λ (o : Option (List ℕ)). IfSome o (λ bytes. IsTotal (length bytes))) (sym i.sent_state) tt);
        held = subst (AllByRecursion IsChunk) (sym i.chunks) tt;
      }

  -- ---- a flush of its own begins

  begun-flushing : (l : MemberState S) (w : View) → IsProposal who.address l w → (z : MemberState S) → z.view_state ≡ l.view_state → z.promise ≡ promising w l.promise → z.notes ≡ l.notes
      → IsFlushing who.address z (begun_with who.address w (report_in l))
  begun-flushing l w p z view_state promise notes = record {
    inside = ap is_some view_state ∙ inside-some l.view_state p.before p.inside;
    promise = ap (λ (x : PromiseModel). x.proposal) promise;
    own = p.own;
    waiting = ap (λ (x : PromiseModel). x.is_installed) promise;
    list = p.sound;
    reported = ap (λ b. is_some (cond b (Some (report_in l)) None)) (same_address-refl who.address);
    leads = λ v e.
        let same : p.before ≡ v = same_Some p.before v (sym p.inside ∙ sym (ap view_in view_state) ∙ e) in
        ap (leads_in who.address v) notes ∙ subst (λ (u : View). leads_in who.address u l.notes ≡ true) same p.leads;
  }

  pub begun-member_state : (w : View) (l new : InStep S) → IsMemberState who l.member → IsProposal who.address l.member w → Begins who w l new → IsMemberState who new.member
  begun-member_state w l new kept p b =
      subst (λ (z : MemberState S). IsMemberState who z) (sym b.member_state) (record {
        own = kept.own;
        unsuspected = kept.unsuspected;
        inside = kept.inside;
        unconnected = λ e. not-both (is_connected l.member) (connected-by l.member.view_state (is_some l.member.contact) (inside-some l.member.view_state p.before p.inside)) e;
        listed = λ v e. subst (λ (z : View). stands_in who.address z.members ≡ true) (same_Some w v e) p.listed;
        waiting = λ e f. absurd (none-some (begun_with who.address w (report_in l.member)) (sym f));
        installed = λ e. absurd (let n : false ≡ true = e in cc);
        flushing = λ f e. subst (λ (g : FlushModel). IsFlushing who.address (record (l.member) { promise = promising w l.member.promise; flush = Some (begun_with who.address w (report_in l.member)); chunks = held_for w l.member }) g)
            (same_Some (begun_with who.address w (report_in l.member)) f e) (begun-flushing l.member w p _ refl refl refl);
        sent_installs = kept-on who l.member _ refl refl refl kept.sent_installs;
        held = held-on (option_eq same_view_id (id_of l.member.promise.proposal) (Some w.id)) l.member.chunks kept.held;
      })

  -- ---- a view is entered

  -- in a view that is the promised one
  pub gone-member_state : (new : MemberState S) (w : View) → new.view_state ≡ Some (fresh_in who.address w) → new.promise ≡ installed_as who.address w → new.flush ≡ None → stands_in who.address new.notes.suspects ≡ false → new.chunks ≡ []
      → stands_in who.address w.members ≡ true
      → IsKept who new → IsMemberState who new
  gone-member_state new w view_state promise flush unsuspected chunks stands kept =
      let view : view_in new.view_state ≡ Some w = ap view_in view_state ∙ ap Some (fresh-view who.address w) in
      let proposal : new.promise.proposal ≡ Some w = ap (λ (p : PromiseModel). p.proposal) promise in
      record {
        own = ap (λ (p : PromiseModel). p.member) promise;
        unsuspected = unsuspected;
        inside = λ v e. subst (λ (z : View). stands_in who.address z.members ≡ true) (same_Some w v (sym view ∙ e)) stands;
        unconnected = λ e. not-both (is_connected new) (connected-by new.view_state (is_some new.contact) (ap is_some view_state)) e;
        listed = λ v e. subst (λ (z : View). stands_in who.address z.members ≡ true) (same_Some w v (sym proposal ∙ e)) stands;
        waiting = λ e f. not-both new.promise.is_installed (ap (λ (p : PromiseModel). p.is_installed) promise) e;
        installed = λ e. view ∙ sym proposal;
        flushing = λ f e. absurd (none-some f (sym flush ∙ e));
        sent_installs = kept;
        held = subst (AllByRecursion IsChunk) (sym chunks) tt;
      }

  -- it goes into its own proposal
  pub finished-member_state : (meaning : Meaning S) (f : FlushModel) (t : ViewState) (l old new : MemberState S) (out later : Output) → IsMemberState who l → l.flush ≡ Some f
      → old.promise ≡ l.promise → Finishes meaning who f t (in_step old out) (in_step new later) → IsMemberState who new
  finished-member_state meaning f t l old new out later kept flush same z =
      let x = kept.flushing f flush in
      let given = finished_given meaning f t old.receiver in
      let others = others_of who.address f.members in
      let view_state : new.view_state ≡ Some (fresh_in who.address (proposed f)) = ap (λ (n : MemberState S). n.view_state) z.member_state in
      let promise : after_install (proposed f) old.promise ≡ installed_as who.address (proposed f) =
      own-installed who.address (proposed f) old.promise (ap (λ (p : PromiseModel). p.member) same ∙ kept.own) (ap (λ (p : PromiseModel). p.proposal) same ∙ x.promise)
      (ap (λ (p : PromiseModel). p.is_installed) same ∙ x.waiting) in
      gone-member_state new (proposed f) view_state (ap (λ (n : MemberState S). n.promise) z.member_state ∙ promise) (ap (λ (n : MemberState S). n.flush) z.member_state) (ap (λ (n : MemberState S). stands_in who.address n.notes.suspects) z.member_state) (ap (λ (n : MemberState S). n.chunks) z.member_state)
      (subst (λ (p : Address). stands_in p f.members ≡ true) x.own (coordinator-in f.proposal f.members x.list))
      (record {
        given = given_by f (view_of t).id given others;
        spelled = z.sent_installs ∙ given-sent who f (view_of t).id given others;
        sound = given-sound (λ m. IsPacket (packet_in who.group m)) who.address f (view_of t).id given others z.grows.sound;
        current = all-current f (view_of t).id given others (view_in new.view_state) (ap view_in view_state ∙ ap Some (fresh-view who.address (proposed f)));
        state = z.sent_state;
      })

  -- all have reported: it goes into its own proposal, and proposes what is due then
  pub goes-on : (meaning : Meaning S) (f : FlushModel) (t : ViewState) (old mid new : InStep S) → old.member.flush ≡ Some f → old.member.view_state ≡ Some t
      → option_map_or is_complete old.member.flush false ≡ true → Finishes meaning who f t old mid → ProposesIf who mid new → GoesOn meaning who old new
  goes-on meaning f t old mid new flush view_state complete finishes proposes =
      let all : is_complete f ≡ true = subst (λ (o : Option FlushModel). option_map_or is_complete o false ≡ true) flush complete in
      let both : FinishesAndProposes meaning who f t old new = record { mid = in_step mid.member mid.out; finishes = finishes; proposes = proposes } in
      let inside : MatchOption old.member.view_state ⊥ (λ u. FinishesAndProposes meaning who f u old new) =
      subst (λ (o : Option ViewState). MatchOption o ⊥ (λ u. FinishesAndProposes meaning who f u old new)) (sym view_state) both in
      let done : MatchBool (is_complete f) (MatchOption old.member.view_state ⊥ (λ u. FinishesAndProposes meaning who f u old new)) (StaysAs old new) =
      subst (λ (b : Bool). MatchBool b (MatchOption old.member.view_state ⊥ (λ u. FinishesAndProposes meaning who f u old new)) (StaysAs old new)) (sym all) inside in
      subst (λ (o : Option FlushModel). MatchOption o (StaysAs old new)
      (λ g. MatchBool (is_complete g) (MatchOption old.member.view_state ⊥ (λ u. FinishesAndProposes meaning who g u old new)) (StaysAs old new))) (sym flush) done

  -- it enters the view of another
  pub entered-member_state : (meaning : Meaning S) (q : Address) (i : wire.Install) (given : Option (List ℕ)) (l new : MemberState S) (out later : Output)
      → IsMemberState who l → is_entry (core_of who.address l) q i ≡ true → Enters meaning who l.view_state i given (in_step l out) (in_step new later) → IsMemberState who new
  entered-member_state meaning q i given l new out later kept enters z =
      let parts = and_parts (same_address q i.view.id.creator && may_install i.view l.promise) (is_fitting (view_in l.view_state) (view_core_in l.view_state).delivered i) enters in
      let may : may_install i.view l.promise ≡ true = (and_parts (same_address q i.view.id.creator) (may_install i.view l.promise) parts.0).1 in
      let promise : after_install i.view l.promise ≡ installed_as who.address i.view = other-installed who.address i.view l.promise kept.own may in
      gone-member_state new i.view (ap (λ (n : MemberState S). n.view_state) z.member_state) (ap (λ (n : MemberState S). n.promise) z.member_state ∙ promise) (ap (λ (n : MemberState S). n.flush) z.member_state) (ap (λ (n : MemberState S). stands_in who.address n.notes.suspects) z.member_state) (ap (λ (n : MemberState S). n.chunks) z.member_state)
      (kept.listed i.view (only-the-promised i.view l.promise may).0) (nothing-kept who new z.sent_installs
      (subst (λ (o : Option (List ℕ)). IfSome o (λ bytes. IsTotal (length bytes))) (sym (ap (λ (n : MemberState S). n.sent_state) z.member_state)) tt))

  -- ---- another contact, other chunks and notes, and another flush

  flushing-on : (l : MemberState S) (contact : Option Address) (flush : Option FlushModel) (chunks : List wire.Chunk) (b : NotesModel) (f : FlushModel)
      → ((v : View) → leads_in who.address v l.notes ≡ true → leads_in who.address v b ≡ true) → IsFlushing who.address l f
      → IsFlushing who.address (record l { contact = contact; flush = flush; chunks = chunks; notes = b }) f
  flushing-on l contact flush chunks b f leads x =
      record { inside = x.inside; promise = x.promise; own = x.own; waiting = x.waiting; list = x.list; reported = x.reported; leads = λ v i. leads v (x.leads v i) }

  goes-on-with : (l : MemberState S) (contact : Option Address) (flush : Option FlushModel) (chunks : List wire.Chunk) (b : NotesModel) → IsMemberState who l
      → stands_in who.address b.suspects ≡ false → (is_some l.view_state || is_some contact ≡ false → l.promise.proposal ≡ None) → (flush ≡ None → l.flush ≡ None)
      → ForSome flush (IsFlushing who.address (record l { contact = contact; flush = flush; chunks = chunks; notes = b })) → AllByRecursion IsChunk chunks
      → IsMemberState who (record l { contact = contact; flush = flush; chunks = chunks; notes = b })
  goes-on-with l contact flush chunks b kept unsuspected unconnected none flushing held = record {
    own = kept.own;
    unsuspected = unsuspected;
    inside = kept.inside;
    unconnected = unconnected;
    listed = kept.listed;
    waiting = λ i f. kept.waiting i (none f);
    installed = kept.installed;
    flushing = flushing;
    sent_installs = kept-on who l _ refl refl refl kept.sent_installs;
    held = held;
  }

  -- ---- a report is recorded

  recorded-flushing : (l : MemberState S) (q : Address) (w : ViewId) (r : wire.Report) (f : FlushModel) (b d : Bool) (o : Option FlushModel) → IsFlushing who.address l f
      → IsFlushing who.address (record l { flush = o }) (cond b (cond d (record f { reports = f.reports ++ (q, r) ∷ [] }) f) f)
  recorded-flushing l q w r f true true o x =
      record { inside = x.inside; promise = x.promise; own = x.own; waiting = x.waiting; list = x.list; reported = reported-more who.address f.reports ((q, r) ∷ []) x.reported; leads = x.leads }
  recorded-flushing l q w r f true false o x = flushing-on l l.contact o l.chunks l.notes f (λ v e. e) x
  recorded-flushing l q w r f false d o x = flushing-on l l.contact o l.chunks l.notes f (λ v e. e) x

  recorded-by : (l : MemberState S) (q : Address) (w : ViewId) (r : wire.Report) (flush : Option FlushModel) → l.flush ≡ flush → IsMemberState who l → IsMemberState who (record l { flush = option_map (recording q w r) flush })
  recorded-by l q w r None e kept =
      goes-on-with l l.contact None l.chunks l.notes kept kept.unsuspected kept.unconnected (λ none. e) (λ f same. absurd (none-some f same)) kept.held
  recorded-by l q w r (Some f) e kept =
      goes-on-with l l.contact (Some (recording q w r f)) l.chunks l.notes kept kept.unsuspected kept.unconnected (λ none. absurd (none-some (recording q w r f) (sym none)))
      (λ g same. subst (λ (z : FlushModel). IsFlushing who.address (record l { flush = Some (recording q w r f) }) z) (same_Some (recording q w r f) g same)
      (recorded-flushing l q w r f (same_view_id f.proposal w) (is_awaited q f) (Some (recording q w r f)) (kept.flushing f e))) kept.held

  pub recorded-member_state : (l new : MemberState S) (q : Address) (w : ViewId) (r : wire.Report) → IsMemberState who l → new ≡ record l { flush = option_map (recording q w r) l.flush } → IsMemberState who new
  recorded-member_state l new q w r kept is = subst (λ (z : MemberState S). IsMemberState who z) (sym is) (recorded-by l q w r l.flush refl kept)

  -- ---- notes

  -- notes by which it does not suspect itself, and goes on to lead where it led
  pub noted-member_state : (l new : MemberState S) (b : NotesModel) → IsMemberState who l → new ≡ record l { notes = b } → stands_in who.address b.suspects ≡ false
      → ((v : View) → leads_in who.address v l.notes ≡ true → leads_in who.address v b ≡ true) → IsMemberState who new
  noted-member_state l new b kept is free leads = subst (λ (z : MemberState S). IsMemberState who z) (sym is)
      (goes-on-with l l.contact l.flush l.chunks b kept free kept.unconnected (λ none. none) (λ f e. flushing-on l l.contact l.flush l.chunks b f leads (kept.flushing f e)) kept.held)

  -- ---- a chunk of a state

  -- other chunks
  pub held-member_state : (l new : MemberState S) (chunks : List wire.Chunk) → IsMemberState who l → new ≡ record l { chunks = chunks } → AllByRecursion IsChunk chunks → IsMemberState who new
  held-member_state l new chunks kept is all = subst (λ (z : MemberState S). IsMemberState who z) (sym is)
      (goes-on-with l l.contact l.flush chunks l.notes kept kept.unsuspected kept.unconnected (λ none. none) (λ f e. flushing-on l l.contact l.flush chunks l.notes f (λ v i. i) (kept.flushing f e)) all)

  -- ---- a new contact

  pub contact-member_state : (l new : MemberState S) (q : Address) → IsMemberState who l → new ≡ record l { contact = Some q } → IsMemberState who new
  contact-member_state l new q kept is = subst (λ (z : MemberState S). IsMemberState who z) (sym is)
      (goes-on-with l (Some q) l.flush l.chunks l.notes kept kept.unsuspected (λ e. not-both (is_some l.view_state || true) (or_right (is_some l.view_state) true refl) e) (λ none. none)
      (λ f e. flushing-on l (Some q) l.flush l.chunks l.notes f (λ v i. i) (kept.flushing f e)) kept.held)

  -- ---- a first view of itself alone

  unflushed : (flush : Option FlushModel) (l : MemberState S) → l.flush ≡ flush → l.view_state ≡ None → IsMemberState who l → flush ≡ None
  unflushed None l e none kept = refl
  unflushed (Some f) l e none kept = not-both (is_some l.view_state) (kept.flushing f e).inside (ap is_some none)

  pub created-member_state : (l new : MemberState S) → IsMemberState who l → is_connected l ≡ false
      → new ≡ record l { view_state = Some (fresh_in who.address (lone_view who.address)); promise = installed_as who.address (lone_view who.address); sent_state = None; chunks = [] } → IsMemberState who new
  created-member_state l new kept off is =
      let none : l.view_state ≡ None = outside l.view_state (is_some l.contact) off in
      let no-items : l.sent_installs.items ≡ [] = kept.sent_installs.spelled ∙ ap (map (sent_install who))
      (none-given (view_in l.view_state) kept.sent_installs.given (ap view_in none) kept.sent_installs.current) in
      let promise = ap (λ (n : MemberState S). n.promise) is in
      let flush : new.flush ≡ None = ap (λ (n : MemberState S). n.flush) is ∙ unflushed l.flush l refl none kept in
      gone-member_state new (lone_view who.address) (ap (λ (n : MemberState S). n.view_state) is) promise flush (ap (λ (n : MemberState S). stands_in who.address n.notes.suspects) is ∙ kept.unsuspected)
      (ap (λ (n : MemberState S). n.chunks) is) (ap (λ b. b || false) (same_address-refl who.address))
      (nothing-kept who new (ap (λ (n : MemberState S). n.sent_installs.items) is ∙ no-items)
      (subst (λ (o : Option (List ℕ)). IfSome o (λ bytes. IsTotal (length bytes))) (sym (ap (λ (n : MemberState S). n.sent_state) is)) tt))
