-- The act Enters: a member goes into the view that it promised, as the view's coordinator instructs it.
use Rattle.std.proofs.Common.{◌≡◌, ℕ, ◌+◌, false, Option, Some, None, List, [], ◌∷◌, ◌++◌, length, refl, sym, ap, ◌∙◌, subst}
use Rattle.std.specs.Prelude.{MatchOption, IsSome, slice_get}
use Rattle.std.specs.Option.{ForSome, IsSomeAnd, option_map, option_map_or, option_eq}
use Rattle.std.proofs.lemmas.Option.{none-some, same_Some}
use Rattle.std.proofs.lemmas.List.{append-nil, append_assoc, length-append}
use Rattle.std.proofs.lemmas.List.Sums.{fold-append}
use Rattle.address.specs.Ids.{Address, ViewId, same_address, same_view_id}
use Rattle.view.specs.Members.{View}
use Rattle.wire_values.specs.Values.{Entry, Report}
use Rattle.wire_values.specs.Values as wire
use Rattle.wire_values.specs.declared.packet.Body.TheVariants as bodies
use Rattle.wire_values.specs.Posted.{Posted}
use Rattle.state_transfer.specs.Meanings.{Meaning}
use Rattle.trace_props.specs.declared.event.Event.{Event}
use Rattle.trace_props.specs.declared.event.Event.TheVariants.{Installed}
use Rattle.trace_props.specs.declared.event.Numbered.{Numbered}
use Rattle.trace_props.specs.Observed.{delivered_in, sent_in, own}
use Rattle.trace_props.specs.Rules.{IsBelow}
use Rattle.trace_props.specs.State.{entry_state}
use Rattle.law_acts.specs.Words.{list_of}
use Rattle.law_acts.specs.Histories.{History, flush_of, report_of}
use Rattle.law_acts.specs.Cores.{Core, id_of, report_with, left_of, applied}
use Rattle.law_acts.specs.Acts.{Enters, MayEnter, gone_into, undelivered, delivered_at, state_into, deliveries}
use Rattle.law_acts.specs.Steps.{System, put, came_of, acted}
use Rattle.law_acts.specs.Packets.{end_of, IsCutOf, IsFitting, IsInstruction, state_with}
use Rattle.law_acts.specs.Members.{LiesBelow, MemberFact}
use Rattle.law_acts.specs.Given.{IsGiven, chunk_at}
use Rattle.law_acts.specs.Invariant.{EachPiece, HoldsPutOut, Invariant}
use Rattle.law_acts.proofs.GivenStates.{given-is}
use Rattle.law_acts.proofs.KeepHistory.{later-trans, later-event}
use Rattle.law_acts.proofs.KeepPackets.{instruction-later}
use Rattle.law_acts.proofs.KeepOthers.{only-trans, only-event}
use Rattle.law_acts.proofs.KeepTrace.{views-of, stands-of, trace-push, only-state, only_state-trans}
use Rattle.law_acts.proofs.KeepByMove.{packets-later, entries-later, states-later, Moves, moved}
use Rattle.law_acts.proofs.KeepWithoutInstall.{grown-trace}
use Rattle.law_acts.proofs.InputsWerePut.{said-of}
use Rattle.law_acts.proofs.ActDeliversLast.{Follow, undelivered-end, undelivered-follow, delivered_on, Law, GoesOut, goes-out}
use Rattle.law_acts.proofs.KeepByInstall.{installed_on, entries-installed, begun-same, states-entered}
use Rattle.law_acts.proofs.EnteredViews.{arrives}
use Rattle.law_acts.proofs.InstructedEntry.{going, IsReady, install-goes, not-yet, install-entry, same-view, takes-state, view-begins, has-taken}

-- ---- a member's view, if it has one

-- what is so of its view is so of its id
for-id : (P : ViewId → Type 0) (o : Option View) → ForSome o (λ v. P v.id) → ForSome (id_of o) P
for-id P None f v e = absurd (none-some v e)
for-id P (Some u) f v e = subst P (same_Some u.id v e) (f u refl)

match-id : (A : Type 0) (P : ViewId → Type 0) (o : Option View) → (o ≡ None → A) → ForSome o (λ v. P v.id) → MatchOption (id_of o) A P
match-id A P None none some = none refl
match-id A P (Some u) none some = some u refl

-- ---- states

-- more entries are applied
pub state_with-append : {S : Type 0} (meaning : Meaning S) (v : ViewId) (entries more : List Entry) (t : List Event) (s : S)
    → state_with meaning v entries t ≡ Some s → state_with meaning v (entries ++ more) t ≡ Some (applied meaning s more)
state_with-append {S} meaning v entries more t s is = by (entry_state meaning v t) is
  where
    by : (o : Option S) → option_map (λ z. applied meaning z entries) o ≡ Some s → option_map (λ z. applied meaning z (entries ++ more)) o ≡ Some (applied meaning s more)
    by None x = absurd (none-some s x)
    by (Some z) x =
        ap Some (fold-append (λ y (w : Entry). meaning.apply y w.sender w.payload) z entries more ∙ ap (λ y. applied meaning y more) (same_Some (applied meaning z entries) s x))

-- ---- the act

module _ {S : Type 0} (meaning : Meaning S) where
  abbrev Fact : History → Address → Core S → Type 0
  Fact h p c = MemberFact meaning h p c

  -- what is delivered
  abbrev last_delivered : Core S → wire.Install → List Entry
  last_delivered c i = delivered_at c i.base i.items

  -- what is handed back
  abbrev left_back : Core S → wire.Install → List Numbered
  left_back c i = option_map_or (λ (v : View). left_of c.me (last_delivered c i) c.view_state.outstanding) c.view []

  abbrev mine_of : Core S → Report
  mine_of c = report_with c.view c.view_state

  -- in a view, what is delivered is what was not yet delivered of the cut
  last-is : (c : Core S) (i : wire.Install) (v : View) → c.view ≡ Some v → last_delivered c i ≡ undelivered c.view_state.delivered i.base i.items
  last-is c i v e = ap (λ o. option_map_or (λ (u : View). undelivered c.view_state.delivered i.base i.items) o []) e

  cut-in : (h : History) (c : Core S) (i : wire.Install) (v : View) → IsFitting h i.view.id c.me i (mine_of c) → c.view ≡ Some v → IsCutOf h.trace i.base i.items (mine_of c) v.id
  cut-in h c i v fits e = fits.cut v.id (ap id_of e)

  follows : (h : History) (c : Core S) (i : wire.Install) → Fact h c.me c → IsFitting h i.view.id c.me i (mine_of c) → ForSome c.view (λ v. Follow h.trace c.me v.id (last_delivered c i))
  follows h c i x fits v e =
      let cut = cut-in h c i v fits e in
      subst (λ (l : List Entry). Follow h.trace c.me v.id l) (sym (last-is c i v e))
      (undelivered-follow h.trace c.me v.id c.view_state.delivered i.base i.items (x.view v e).counts.delivered_count cut.low cut.order)

  -- then it has delivered the order up to the end of the cut
  ends : (h k : History) (c : Core S) (i : wire.Install) → Fact h c.me c → IsFitting h i.view.id c.me i (mine_of c)
      → ForSome c.view (λ v. list_of c.me v.id k.trace ≡ list_of c.me v.id h.trace ++ last_delivered c i) → ForSome c.view (λ v. length (list_of c.me v.id k.trace) ≡ end_of i)
  ends h k c i x fits list v e =
      let cut = cut-in h c i v fits e in
      ap length (list v e) ∙ length-append (list_of c.me v.id h.trace) (last_delivered c i)
      ∙ ap (λ n. n + length (last_delivered c i)) (x.view v e).counts.delivered_count
      ∙ ap (λ (l : List Entry). c.view_state.delivered + length l) (last-is c i v e)
      ∙ undelivered-end c.view_state.delivered i.base i.items cut.low cut.high

  -- once it delivered its last entries it is ready
  ready : (s : System S) (c : Core S) (i : wire.Install) (given : Option (List ℕ)) (k : History) → EachPiece meaning s.history → HoldsPutOut s.history.pool c.chunks
      → IsGiven c.chunks i.view.id i.state given → Invariant meaning s → Fact s.history c.me c
      → IsInstruction s.history i.view.id.creator c.me i → c.promise ≡ Some i.view → c.installed ≡ false → report_of c.me i.view.id s.history.pool ≡ Some (mine_of c)
      → GoesOut meaning s.history k c (last_delivered c i) → k.pool ≡ s.history.pool → ForSome given (λ bytes. IsSome (meaning.decode bytes))
      → IsReady meaning k c.me i (mine_of c) (left_back c i) (applied meaning c.state (last_delivered c i)) given
  ready s c i given k each held is inv x instructed_so promised waiting report out pool readable =
      let h = s.history in
      let p = c.me in
      let fits = instructed_so.fits (mine_of c) report in
      let quiet = out.quiet in
      record {
        trace = quiet.trace;
        packets = packets-later h k [] quiet.later (pool ∙ sym (append-nil h.pool)) inv.packets (λ n z at. absurd (none-some z at));
        entries = entries-later h k quiet.later quiet.none inv.entries;
        states = states-later meaning h k quiet.later quiet.begun quiet.none inv.packets inv.states;
        running = out.running;
        current = out.current;
        rises = for-id (λ v. IsBelow v i.view.id) c.view (λ v e. subst (λ (o : Option View). IsSomeAnd o (λ w. IsBelow v.id w.id)) promised (x.promise.above waiting v e));
        instruction = instruction-later h k i.view.id.creator p i quiet.later instructed_so;
        report = quiet.later.report p i.view.id (mine_of c) report;
        end = for-id (λ v. length (list_of p v k.trace) ≡ end_of i) c.view (ends h k c i x fits (λ v e. (out.view v e).list));
        rest = match-id (left_back c i ≡ []) (λ v. sent_in p v k.trace ≡ own p (delivered_in p v k.trace) ++ left_back c i) c.view
            (λ e. ap (λ o. option_map_or (λ (v : View). left_of p (last_delivered c i) c.view_state.outstanding) o []) e)
            (λ v e. (out.view v e).sent
            ∙ ap (λ (l : List Numbered). own p (delivered_in p v.id k.trace) ++ l) (sym (ap (λ o. option_map_or (λ (u : View). left_of p (last_delivered c i) c.view_state.outstanding) o []) e)));
        now = out.state;
        in_view = for-id (λ v. state_with meaning v (list_of p v k.trace) k.trace ≡ Some (applied meaning c.state (last_delivered c i))) c.view (λ v e.
            ap (λ l. state_with meaning v.id l k.trace) (out.view v e).list
            ∙ ap (option_map _) (quiet.begun v.id)
            ∙ state_with-append meaning v.id (list_of p v.id h.trace) (last_delivered c i) h.trace c.state (x.state.in_view v e));
        readable = readable;
        gives = λ e entry.
            let w = i.view.id in
            let states = states-later meaning h k quiet.later quiet.begun quiet.none inv.packets inv.states in
            let instruction = instruction-later h k w.creator p i quiet.later instructed_so in
            given-is meaning k (option_eq same_view_id (mine_of c).previous e.previous) i.state c.chunks w given
            (λ n m v chunk at says. subst (λ (o : Option S). IsSomeAnd o (λ z. chunk ≡ chunk_at (meaning.encode z) chunk.index)) (sym (quiet.begun v))
            (each n m v chunk (ap (λ (l : List Posted). slice_get l n) (sym pool) ∙ at) says))
            (subst (λ (l : List Posted). HoldsPutOut l c.chunks) (sym pool) held)
            (states.given w p i instruction.one e (mine_of c) entry (quiet.later.report p w (mine_of c) report)) is;
      }

  -- what is new of the history, and of the member
  enters-moves : (s : System S) (c : Core S) (i : wire.Install) (given : Option (List ℕ)) (k : History) → ((y : S) → meaning.is_state y → meaning.decode (meaning.encode y) ≡ Some y) → Invariant meaning s
      → Fact s.history c.me c → c.promise ≡ Some i.view → same_address i.view.id.creator c.me ≡ false
      → GoesOut meaning s.history k c (last_delivered c i) → k.pool ≡ s.history.pool
      → IsReady meaning k c.me i (mine_of c) (left_back c i) (applied meaning c.state (last_delivered c i)) given
      → Moves meaning c.me s.history (installed_on k (going c.me i (id_of c.view) (left_back c i) given))
      (Some (gone_into i.view (state_into meaning c (last_delivered c i) given) [] None c))
  enters-moves s c i given k reads inv x promised other out pool y =
      let h = s.history in
      let p = c.me in
      let r = mine_of c in
      let back = left_back c i in
      let st = applied meaning c.state (last_delivered c i) in
      let mine = going p i (id_of c.view) back given in
      let z = installed_on k mine in
      let goes = install-goes meaning k p i r back st given y reads in
      let m = later-event k (Installed mine) (views-of meaning k y.trace) (stands-of meaning k.trace (Installed mine) goes) in
      let none = not-yet meaning k p i r back st given y in
      let coordinator = y.instruction.other in
      record {
        later = later-trans h k z out.quiet.later m;
        only = only-trans p h k z out.quiet.only (only-event p k (Installed mine) refl);
        state = only_state-trans meaning p h.trace k.trace z.trace out.quiet.state (only-state meaning p k.trace (Installed mine) refl);
        trace = trace-push meaning k (Installed mine) y.trace goes tt;
        packets = packets-later k z [] m (sym (append-nil k.pool)) y.packets (λ n q at. absurd (none-some q at));
        entries = entries-installed k mine m y.entries none (install-entry meaning k p i r back st given y m);
        states = states-entered meaning k mine m coordinator y.packets y.states;
        member = λ d e. subst (λ (w : Core S). Fact z p w) (same_Some _ d e)
            (arrives meaning k c mine (state_into meaning c (last_delivered c i) given) [] None (record {
              itself = refl;
              before = y.trace.before;
              running = y.running;
              new = none;
              listed = y.instruction.listed;
              first = same-view meaning k p i r back st given y m;
              announced = λ o. ap (flush_of i.view.id) pool ∙ x.announced i.view promised o;
              below = subst (λ (o : Option View). LiesBelow k.pool p o) promised (subst (λ (l : List Posted). LiesBelow l p c.promise) (sym pool) x.below);
              keeps = λ q j there. absurd (none-some j there);
              now = has-taken meaning k p i r back st given y;
              is = takes-state meaning k p i r back st given y reads;
              begins = begun-same meaning k mine coordinator i.view.id ∙ view-begins meaning k p i r back st given y reads;
            }));
      }

  pub enters-keep : (s : System S) (c : Core S) (which : Option ℕ) (i : wire.Install) (given : Option (List ℕ)) → EachPiece meaning s.history
      → HoldsPutOut s.history.pool c.chunks → Law meaning → ((y : S) → meaning.is_state y → meaning.decode (meaning.encode y) ≡ Some y)
      → Invariant meaning s → Fact s.history c.me c → MayEnter meaning (came_of c s.history.pool which) c i given
      → Invariant meaning (acted meaning s c.me (Enters i given) c)
  enters-keep s c which i given each held law reads inv x a =
      let h = s.history in
      let p = c.me in
      let entries = last_delivered c i in
      let k = delivered_on h p c.view entries in
      let said = said-of h c which i.view.id.creator (bodies.Install i) inv.packets a.asked in
      let instructed_so : IsInstruction h i.view.id.creator p i = said.fact in
      let report : report_of p i.view.id h.pool ≡ Some (mine_of c) = x.reported a.waiting i.view a.promised said.other in
      let out : GoesOut meaning h k c entries =
      goes-out meaning h c entries law inv.trace x (follows h c i x (instructed_so.fits (mine_of c) report))
      (λ e. ap (λ o. option_map_or (λ (u : View). undelivered c.view_state.delivered i.base i.items) o []) e) in
      let y = ready s c i given k each held a.gives inv x instructed_so a.promised a.waiting report out refl a.readable in
      let mine = going p i (id_of c.view) (left_back c i) given in
      subst (λ (l : History). Invariant meaning (record { running = put p (Some (gone_into i.view (state_into meaning c entries given) [] None c)) s.running; history = l }))
      (sym (grown-trace meaning h (deliveries p c.view entries ++ Installed mine ∷ [])
      ∙ ap {B = History} (λ (t : List Event). record { pool = h.pool; trace = t }) (sym (append_assoc h.trace (deliveries p c.view entries) (Installed mine ∷ [])))))
      (moved meaning s p (installed_on k mine) (Some (gone_into i.view (state_into meaning c entries given) [] None c)) inv
      (enters-moves s c i given k reads inv x a.promised said.other out refl y))
