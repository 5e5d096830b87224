-- The act Puts: a member says again what is known. Each such packet is true when it is put out, and no register changes by it.
use Rattle.std.proofs.Common.{◌≡◌, ℕ, ◌≤◌, true, false, Option, Some, None, List, [], ◌∷◌, ◌++◌, refl, sym, ap, ◌∙◌, subst, arith, is_some}
use Rattle.std.specs.Option.{option_or}
use Rattle.std.proofs.lemmas.Option.{none-some, same_Some}
use Rattle.address.specs.Ids.{Address, ViewId, same_address}
use Rattle.view.specs.Members.{View}
use Rattle.wire_values.specs.Values.{Entry, Report}
use Rattle.wire_values.specs.Values as wire
use Rattle.wire_values.specs.declared.packet.Body.{Body}
use Rattle.wire_values.specs.declared.packet.Body.TheVariants as bodies
use Rattle.wire_values.specs.Posted.{Posted, packet}
use Rattle.state_transfer.specs.Meanings.{Meaning}
use Rattle.flush.specs.Cuts.{first_of}
use Rattle.trace_props.specs.Observed.{has_started}
use Rattle.address.proofs.SameIds.{same_address-true}
use Rattle.law_acts.specs.Words.{Tally, open_count}
use Rattle.law_acts.specs.Histories.{History, flush_in, report_by, install_to, flush_of, report_of, install_of}
use Rattle.law_acts.specs.Cores.{Core, id_of}
use Rattle.law_acts.specs.Acts.{Describes}
use Rattle.law_acts.specs.Packets.{IsSent, IsProposal, IsAnswer, IsInstruction, IsOrder, IsStatus, BodyFact, PacketFact}
use Rattle.law_acts.specs.Members.{MemberFact}
use Rattle.law_acts.specs.Steps.{System, put, grown}
use Rattle.law_acts.specs.Invariant.{TraceFact, EachPacket, Invariant}
use Rattle.law_acts.proofs.Lists.{first_of-append, first_of-still, slice_get-one, place-of}
use Rattle.law_acts.proofs.KeepHistory.{later-packets}
use Rattle.law_acts.proofs.KeepPackets.{packet-later}
use Rattle.law_acts.proofs.KeepOthers.{IsOwn, IsFrom, only-packets, flush-later, first-entered}
use Rattle.law_acts.proofs.KeepByMove.{moved}
use Rattle.law_acts.proofs.KeepWithoutInstall.{Quiet, quiet-moves, grown-pool}
use Rattle.law_acts.proofs.KeepTrace.{rules-of, trace-packets, only_state-refl}
use Rattle.law_acts.proofs.RegistersHoldPackets.{passed-to, flush-says, report-says, install-says, report-fact, install-fact}
use Rattle.law_acts.proofs.ActChangesOwn.{outstanding-sent}

-- ---- no register changes

-- one more that gives only what was found already changes nothing
pub first_of-again : {X Y : Type 0} (f : X → Option Y) (xs : List X) (x : X) → ((y : Y) → f x ≡ Some y → first_of f xs ≡ Some y) → first_of f (xs ++ x ∷ []) ≡ first_of f xs
first_of-again {Y} f xs x again = by (f x) refl
  where
    by : (o : Option Y) → f x ≡ o → first_of f (xs ++ x ∷ []) ≡ first_of f xs
    by None e = first_of-still f xs (x ∷ []) (slice_get-one (λ z. f z ≡ None) x e)
    by (Some y) e =
        first_of-append f xs (x ∷ []) ∙ ap (λ o. option_or o (first_of f (x ∷ []))) (again y e) ∙ sym (again y e)

-- a packet that is true says nothing new
pub flush-again : (h : History) (m : Posted) (w : ViewId) → PacketFact h m → flush_of w (h.pool ++ m ∷ []) ≡ flush_of w h.pool
unfolding flush_of
flush-again h m w fact =
    first_of-again (λ (z : Posted). flush_in w z.body) h.pool m (λ l e.
    let x : IsProposal h m.source (record { id = w; members = l }) = subst (λ (b : Body). BodyFact h m.source m.destination b) (flush-says w m.body l e) fact in
    x.one)

pub report-again : (h : History) (m : Posted) (p : Address) (w : ViewId) → PacketFact h m → report_of p w (h.pool ++ m ∷ []) ≡ report_of p w h.pool
unfolding report_of
report-again h m p w fact =
    first_of-again (report_by p w) h.pool m (λ r e.
    let y = passed-to (same_address m.source p) _ r e in
    let x : IsAnswer h m.source w r = subst (λ (b : Body). BodyFact h m.source m.destination b) (report-says w m.body r y.1) fact in
    ap (λ q. report_of q w h.pool) (sym (same_address-true m.source p y.0)) ∙ x.one)

pub install-again : (h : History) (m : Posted) (w : ViewId) (q : Address) → PacketFact h m → install_of w q (h.pool ++ m ∷ []) ≡ install_of w q h.pool
unfolding install_of
install-again h m w q fact =
    first_of-again (install_to q w) h.pool m (λ i e.
    let y = passed-to (same_address m.destination q) _ i e in
    let z = install-says w m.body i y.1 in
    let x : IsInstruction h m.source m.destination i = subst (λ (b : Body). BodyFact h m.source m.destination b) z.0 fact in
    ap (λ (v : ViewId). install_of v q h.pool) (sym z.1) ∙ ap (λ d. install_of i.view.id d h.pool) (sym (same_address-true m.destination q y.0)) ∙ x.one)

-- ---- what is put out is true

module _ {S : Type 0} (meaning : Meaning S) where
  abbrev Fact : History → Address → Core S → Type 0
  Fact h p c = MemberFact meaning h p c

  -- a member whose view has this id
  viewed : (o : Option View) (v : ViewId) → id_of o ≡ Some v → (u : View) × (o ≡ Some u) × (u.id ≡ v)
  viewed None v e = absurd (none-some v e)
  viewed (Some u) v e = (u, refl, same_Some u.id v e)

  forward-true : (h : History) (c : Core S) (v : ViewId) (n : ℕ) (payload : List ℕ) → TraceFact meaning h → Fact h c.me c → Describes c c.me (bodies.Forward v n payload)
      → IsSent h.trace v (record { sender = c.me; number = n; payload = payload })
  forward-true h c v n payload trace x a =
      let u = viewed c.view v a.0 in
      let f = x.view u.0 u.1 in
      let at = place-of c.view_state.outstanding (record { number = n; payload = payload }) a.1 in
      subst (λ (w : ViewId). IsSent h.trace w (record { sender = c.me; number = n; payload = payload })) u.2
      (outstanding-sent h.trace c.me u.0.id c.view_state.outstanding (record { number = n; payload = payload }) ((rules-of meaning h trace).ordered.messages.numbers c.me u.0.id) f.mine.sent at.0 at.1)

  order-true : (h : History) (c : Core S) (v : ViewId) (g : ℕ) (e : Entry) → Fact h c.me c → Describes c c.me (bodies.Order v g e) → IsOrder h.trace c.me v g e
  order-true h c v g e x a =
      let u = viewed c.view v a.0 in
      let f = x.view u.0 u.1 in
      let leads : c.me ≡ v.creator = same_address-true c.me v.creator a.1 in
      subst (λ (w : ViewId). IsOrder h.trace c.me w g e) u.2 (record {
        coordinator = record { own = ap (λ (w : ViewId). w.creator) u.2 ∙ sym leads; entered = first-entered h.trace c.me u.0 f.inside.own };
        order = f.window.order g e a.2;
        near = λ q there. let near = f.window.near g (ap is_some a.2) in let so_many = f.window.all_have q there in omega arith;
      })

  ack-true : (h : History) (c : Core S) (v : ViewId) (n : ℕ) → Fact h c.me c → Describes c c.me (bodies.Ack v n) → n ≤ open_count c.me v h.trace
  ack-true h c v n x a =
      let u = viewed c.view v a.0 in
      let f = x.view u.0 u.1 in
      let counts : open_count c.me v h.trace ≡ c.view_state.delivered = ap (λ (w : ViewId). open_count c.me w h.trace) (sym u.2) ∙ ap (λ (s : Tally). s.count) f.counts.tally in
      subst (λ k. n ≤ k) (sym counts) a.1

  status-true : (h : History) (c : Core S) (v : ViewId) (s : wire.Progress) → Fact h c.me c → Describes c c.me (bodies.Status v s) → IsStatus h.trace c.me v s.stable
  status-true h c v s x a =
      let u = viewed c.view v a.0 in
      let f = x.view u.0 u.1 in
      let leads : c.me ≡ v.creator = same_address-true c.me v.creator a.1 in
      subst (λ (w : ViewId). IsStatus h.trace c.me w s.stable) u.2 (record {
        coordinator = record { own = ap (λ (w : ViewId). w.creator) u.2 ∙ sym leads; entered = first-entered h.trace c.me u.0 f.inside.own };
        all = λ q there. let so_many = f.window.all_have q there in let low = a.2 in omega arith;
      })

  -- whatever a member may put out again is true
  pub describes-true : (h : History) (c : Core S) (q : Address) (b : Body) → TraceFact meaning h → EachPacket h → Fact h c.me c → Describes c q b → BodyFact h c.me q b
  describes-true h c q bodies.Join trace each x a = tt
  describes-true h c q (bodies.Redirect coordinator) trace each x a = tt
  describes-true h c q bodies.Leave trace each x a = tt
  describes-true h c q (bodies.Forward view number payload) trace each x a = forward-true h c view number payload trace x a
  describes-true h c q (bodies.Order view place entry) trace each x a = order-true h c view place entry x a
  describes-true h c q (bodies.Nak view missing) trace each x a = tt
  describes-true h c q (bodies.Ack view delivered) trace each x a = ack-true h c view delivered x a
  describes-true h c q (bodies.Status view progress) trace each x a = status-true h c view progress x a
  describes-true h c q (bodies.Flush proposal) trace each x a =
      let f = x.flush _ a.1 in record { own = f.own; view = f.list; one = f.announced q a.2 a.3 }
  describes-true h c q (bodies.Behind proposal counter) trace each x a = tt
  describes-true h c q (bodies.Report proposal report) trace each x a =
      let other : same_address a.0.id.creator c.me ≡ false = ap (λ (w : ViewId). same_address w.creator c.me) a.3 ∙ a.4 in
      let one : report_of c.me proposal h.pool ≡ Some report =
      ap (λ (w : ViewId). report_of c.me w h.pool) (sym a.3) ∙ x.reported a.2 a.0 a.1 other ∙ ap Some (sym a.6) in
      report-fact h c.me proposal report each one
  describes-true h c q (bodies.Install install) trace each x a =
      let f = x.view install.view a.0 in
      let kept = f.keeps q install a.1 in
      let by = install-fact h install.view.id q install each kept.1 in
      subst (λ (p : Address). IsInstruction h p q install) kept.0 by.fact
  describes-true h c q (bodies.Merge view) trace each x a = tt
  describes-true h c q (bodies.State proposal chunk) trace each x a = tt

  -- ---- the act

  own-of : (h : History) (p q : Address) (b : Body) → BodyFact h p q b → IsOwn p b
  own-of h p q bodies.Join x = tt
  own-of h p q (bodies.Redirect coordinator) x = tt
  own-of h p q bodies.Leave x = tt
  own-of h p q (bodies.Forward view number payload) x = tt
  own-of h p q (bodies.Order view place entry) x = tt
  own-of h p q (bodies.Nak view missing) x = tt
  own-of h p q (bodies.Ack view delivered) x = tt
  own-of h p q (bodies.Status view progress) x = tt
  own-of h p q (bodies.Flush proposal) x = x.own
  own-of h p q (bodies.Behind proposal counter) x = tt
  own-of h p q (bodies.Report proposal report) x = tt
  own-of h p q (bodies.Install install) x = x.own
  own-of h p q (bodies.Merge view) x = tt
  own-of h p q (bodies.State proposal chunk) x = tt

  again-quiet : (h : History) (c : Core S) (q : Address) (b : Body) → TraceFact meaning h → has_started c.me h.trace ≡ true → BodyFact h c.me q b
      → Quiet meaning c.me h (record { pool = h.pool ++ packet c.me b q ∷ []; trace = h.trace })
  again-quiet h c q b trace started fact =
      let m = packet c.me b q in
      record {
        later = later-packets h (m ∷ []) (record { same = λ w r there. install-again h m w r fact });
        only = only-packets c.me h (m ∷ []) (slice_get-one (IsFrom c.me) m (record { source = refl; mine = own-of h c.me q b fact }));
        state = only_state-refl meaning c.me h.trace;
        trace = trace-packets meaning h (m ∷ []) c.me trace started (slice_get-one (λ (z : Posted). z.source ≡ c.me) m refl);
        none = record { entry = λ r w. refl; install = λ w r. install-again h m w r fact };
        begun = λ v. refl;
      }

  pub puts-keep : (s : System S) (c : Core S) (q : Address) (b : Body) → Invariant meaning s → Fact s.history c.me c → Describes c q b
      → Invariant meaning (record { running = put c.me (Some c) s.running; history = grown s.history (packet c.me b q ∷ []) [] })
  puts-keep s c q b i x a =
      let h = s.history in
      let m = packet c.me b q in
      let true_now = describes-true h c q b i.trace i.packets x a in
      let k : History = record { pool = h.pool ++ m ∷ []; trace = h.trace } in
      let quiet = again-quiet h c q b i.trace x.standing.running.started true_now in
      let fact : Fact k c.me c = record {
        standing = x.standing;
        promise = x.promise;
        announced = λ w e other. quiet.later.flush w.id w.members (x.announced w e other);
        below = record {
          announced = λ w l mine e. x.below.announced w l mine (sym (flush-again h m w true_now) ∙ e);
          reported = λ w r e. x.below.reported w r (sym (report-again h m c.me w true_now) ∙ e);
        };
        reported = λ waits w e other. quiet.later.report c.me w.id _ (x.reported waits w e other);
        flush = λ f e. flush-later h k c.me c.promise c.installed c.view c.view_state f quiet.later (x.flush f e);
        view = λ v e. let f = x.view v e in record {
          inside = f.inside;
          counts = f.counts;
          mine = f.mine;
          window = f.window;
          acks = f.acks;
          waiting = f.waiting;
          ordered = f.ordered;
          keeps = λ r j there. let was = f.keeps r j there in (was.0, quiet.later.install v.id r j was.1);
        };
        state = x.state;
      } in
      subst (λ (l : History). Invariant meaning (record { running = put c.me (Some c) s.running; history = l }))
      (sym (grown-pool meaning h (m ∷ [])))
      (moved meaning s c.me k (Some c) i
      (quiet-moves meaning s c.me k (m ∷ []) (Some c) i quiet refl
      (slice_get-one (PacketFact k) m (packet-later h k m quiet.later true_now))
      (λ d e. subst (λ (z : Core S). Fact k c.me z) (same_Some c d e) fact)))
