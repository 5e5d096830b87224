-- The act Delivers: a member that is not the first delivers the next entry that it holds.
use Rattle.std.proofs.Common.{◌≡◌, ℕ, ◌+◌, ◌≤◌, Bool, true, false, cond, Option, Some, None, List, [], ◌∷◌, ◌++◌, length, drop, refl, sym, ap, ◌∙◌, subst, arith, is_some}
use Rattle.std.specs.Prelude.{slice_get, nat_lt}
use Rattle.std.specs.Option.{option_map}
use Rattle.std.proofs.lemmas.Bool.{cond-true}
use Rattle.std.proofs.lemmas.Bool.Decides.{nat_tests}
use Rattle.std.proofs.lemmas.Option.{none-some, same_Some}
use Rattle.std.proofs.lemmas.List.{append-nil, append_assoc, length_push}
use Rattle.std.proofs.lemmas.List.Sums.{fold-append}
use Rattle.address.specs.Ids.{Address, ViewId, IsAddress, same_address}
use Rattle.view.specs.Members.{View}
use Rattle.address.specs.declared.limits.TheConstants.{PAYLOAD}
use Rattle.wire_values.specs.Values.{Entry, held_at}
use Rattle.state_transfer.specs.Meanings.{Meaning}
use Rattle.trace_props.specs.declared.event.Event.{Event}
use Rattle.trace_props.specs.declared.event.Event.TheVariants.{Delivered}
use Rattle.trace_props.specs.declared.event.Delivery.{Delivery}
use Rattle.trace_props.specs.declared.event.Message.{Message}
use Rattle.trace_props.specs.declared.event.Numbered.{Numbered}
use Rattle.trace_props.specs.Observed.{has_started, delivered_in, sent_in, own, numbered}
use Rattle.trace_props.specs.Verdicts.{GoesOn}
use Rattle.address.proofs.SameIds.{same_address-true, same_address-refl}
use Rattle.trace_props.proofs.ObservedGrow.{has_started-stays, has_ended-still, current_view-push, is_blocked-push}
use Rattle.trace_props.proofs.DeliveredGrow.{is_delivery_to, is_delivery_to-at, delivered_in-hit, sent_in-still, own-hit, own-miss}
use Rattle.trace_props.specs.State.{state_of, entry_state}
use Rattle.trace_props.proofs.RuleOfEntry.{state_of-push}
use Rattle.law_acts.specs.Words.{Open, Past, message_for, list_of, tally_of, tally_after}
use Rattle.law_acts.specs.Histories.{History}
use Rattle.law_acts.specs.Cores.{ViewCore, Core, id_of, left_of, delivered_more, applied}
use Rattle.law_acts.specs.Acts.{MayDeliver}
use Rattle.law_acts.specs.Steps.{System, put, grown}
use Rattle.law_acts.specs.Packets.{HoldsAll, state_with}
use Rattle.law_acts.specs.Members.{ViewFact, MemberFact}
use Rattle.law_acts.specs.Invariant.{TraceFact, Invariant}
use Rattle.law_acts.proofs.TalliesGrow.{list_of-hit, tally_of-push}
use Rattle.law_acts.proofs.KeepOthers.{inside-later, window-later, acks-later, waiting-later, first-entered}
use Rattle.law_acts.proofs.KeepByMove.{moved}
use Rattle.law_acts.proofs.KeepWithoutInstall.{quiet-event, quiet-moves, grown-trace}
use Rattle.law_acts.proofs.Lists.{slice_get-right}
use Rattle.law_acts.proofs.KeepTrace.{rules-of}
use Rattle.law_acts.proofs.KeepByStart.{nobody}
use Rattle.law_acts.proofs.OrderedDeliveries.{IsNext, next-of-order}

-- ---- the own messages

head-by : (rest : List Numbered) (m : Numbered) → slice_get rest 0 ≡ Some m → rest ≡ m ∷ drop 1 rest
head-by [] m at = absurd (none-some m at)
head-by (x ∷ rest) m at = ap (λ z. z ∷ rest) (same_Some x m at)

pub own-by : (b : Bool) (p : Address) (so_far : List Message) (sent rest : List Numbered) (m : Message) → same_address m.sender p ≡ b → sent ≡ own p so_far ++ rest
    → (m.sender ≡ p → slice_get sent (length (own m.sender so_far)) ≡ Some (numbered m)) → sent ≡ own p (so_far ++ m ∷ []) ++ drop (length (own p (m ∷ []))) rest
own-by true p so_far sent rest m test is next =
    let same = same_address-true m.sender p test in
    let before = own p so_far in
    let at : slice_get rest 0 ≡ Some (numbered m) =
    sym (slice_get-right before rest 0) ∙ ap (λ l. slice_get l (length before + 0)) (sym is)
    ∙ ap (slice_get sent) (let e : length before + 0 ≡ length before = omega arith in e) ∙ ap (λ q. slice_get sent (length (own q so_far))) (sym same) ∙ next same in
    let one : own p (m ∷ []) ≡ numbered m ∷ [] = own-hit p [] m test in
    is ∙ ap (λ l. before ++ l) (head-by rest (numbered m) at) ∙ sym (append_assoc before (numbered m ∷ []) (drop 1 rest))
    ∙ ap (λ l. l ++ drop 1 rest) (sym (own-hit p so_far m test)) ∙ ap (λ l. own p (so_far ++ m ∷ []) ++ drop (length l) rest) (sym one)
own-by false p so_far sent rest m test is next =
    let none : own p (m ∷ []) ≡ [] = own-miss p [] m test in
    is ∙ ap (λ l. l ++ rest) (sym (own-miss p so_far m test)) ∙ ap (λ l. own p (so_far ++ m ∷ []) ++ drop (length l) rest) (sym none)

-- what a member delivers next, if it is its own, is the first that is outstanding: what it sent is still its own messages and then the rest
pub own-next : (t : List Event) (p : Address) (v : ViewId) (rest : List Numbered) (e : Entry) → sent_in p v t ≡ own p (delivered_in p v t) ++ rest → IsNext t p v (message_for e)
    → sent_in p v t ≡ own p (delivered_in p v t ++ message_for e ∷ []) ++ left_of p (e ∷ []) rest
own-next t p v rest e is next =
    own-by (same_address e.sender p) p (delivered_in p v t) (sent_in p v t) rest (message_for e) refl is
    (λ same. ap (λ q. slice_get (sent_in q v t) (length (own e.sender (delivered_in p v t)))) (sym same) ∙ next.sent)

-- ---- who sent has started

pub sender-started : {S : Type 0} (meaning : Meaning S) (h : History) (p : Address) (v : ViewId) (k : ℕ) (m : Numbered)
    → TraceFact meaning h → slice_get (sent_in p v h.trace) k ≡ Some m → has_started p h.trace ≡ true
sender-started meaning h p v k m trace at = by (has_started p h.trace) refl
  where
    by : (b : Bool) → has_started p h.trace ≡ b → has_started p h.trace ≡ true
    by true e = e
    by false e =
        let none = (nobody meaning p h.trace (rules-of meaning h trace).ordered.placed e).silent v in
        absurd (none-some m (sym (ap (λ l. slice_get l k) none) ∙ at))

-- so the state after a message that is delivered next is one that a receiver can be in
pub next-state : {S : Type 0} (meaning : Meaning S) (h : History) (p : Address) (v : ViewId) (e : Entry) (s : S)
    → ((z : S) (from : Address) (payload : List ℕ) → meaning.is_state z → IsAddress from → length payload ≤ PAYLOAD → meaning.is_state (meaning.apply z from payload))
    → TraceFact meaning h → IsNext h.trace p v (message_for e) → meaning.is_state s → meaning.is_state (meaning.apply s e.sender e.payload)
next-state meaning h p v e s law trace next is =
    law s e.sender e.payload is (trace.proper e.sender (sender-started meaning h e.sender v _ _ trace next.sent)) (trace.short e.sender v _ _ next.sent)

-- one entry more is applied
pub state_with-more : {S : Type 0} (meaning : Meaning S) (v : ViewId) (entries : List Entry) (e : Entry) (t : List Event) (s : S)
    → state_with meaning v entries t ≡ Some s → state_with meaning v (entries ++ e ∷ []) t ≡ Some (applied meaning s (e ∷ []))
state_with-more {S} meaning v entries e t s is = by (entry_state meaning v t) is
  where
    by : (o : Option S) → option_map (λ z. applied meaning z entries) o ≡ Some s → option_map (λ z. applied meaning z (entries ++ e ∷ [])) o ≡ Some (applied meaning s (e ∷ []))
    by None x = absurd (none-some s x)
    by (Some z) x =
        ap Some (fold-append (λ y (w : Entry). meaning.apply y w.sender w.payload) z entries (e ∷ []) ∙ ap (λ y. meaning.apply y e.sender e.payload) (same_Some (applied meaning z entries) s x))

-- ---- the act

module _ {S : Type 0} (meaning : Meaning S) where
  abbrev Fact : History → Address → Core S → Type 0
  Fact h p c = MemberFact meaning h p c

  abbrev delivery_of : Core S → View → Entry → Delivery
  delivery_of c v e = record { member = c.me; view = v.id; message = message_for e }

  -- the core after it
  abbrev delivered_next : Core S → Entry → Core S
  delivered_next c e = record c { view_state = delivered_more c.me (e ∷ []) c.view_state; state = applied meaning c.state (e ∷ []) }

  delivers-goes : (h : History) (c : Core S) (v : View) (e : Entry) → c.view ≡ Some v → Fact h c.me c → IsNext h.trace c.me v.id (message_for e)
      → GoesOn meaning h.trace (Delivered (delivery_of c v e))
  delivers-goes h c v e is x next = record {
    seven = (tt, (tt, (tt, ((λ other. next.order), ((next.number, next.sent), (tt, ((x.standing.running, x.standing.current ∙ ap id_of is), tt)))))));
    enters = tt;
  }

  all-next : (t : ViewCore) (e : Entry) → HoldsAll t.stable t.delivered t.held → held_at (t.delivered + 1) t.held ≡ Some e → HoldsAll t.stable (t.delivered + 1) t.held
  all-next t e all at g past within = by (nat_lt t.delivered g) refl
    where
      by : (b : Bool) → nat_lt t.delivered g ≡ b → is_some (held_at g t.held) ≡ true
      by true test =
          let same : t.delivered + 1 ≡ g = grind (arith, nat_tests) in ap (λ n. is_some (held_at n t.held)) (sym same) ∙ ap is_some at
      by false test = all g past (grind (arith, nat_tests))

  pub delivers-keep : (s : System S) (c : Core S) (v : View) (e : Entry) → ((z : S) (from : Address) (payload : List ℕ) → meaning.is_state z → IsAddress from → length payload ≤ PAYLOAD → meaning.is_state (meaning.apply z from payload))
      → Invariant meaning s → Fact s.history c.me c → MayDeliver c v e
      → Invariant meaning (record { running = put c.me (Some (delivered_next c e)) s.running; history = grown s.history [] (Delivered (delivery_of c v e) ∷ []) })
  delivers-keep s c v e law i x a =
      let h = s.history in
      let t = h.trace in
      let me = c.me in
      let y = delivery_of c v e in
      let happened = Delivered y in
      let k : History = record { pool = h.pool; trace = t ++ happened ∷ [] } in
      let f = x.view v a.open_in.view in
      let d = c.view_state.delivered in
      let rules = rules-of meaning h i.trace in
      let next = next-of-order t me v.id e d rules.ordered.messages rules.ordered.order f.counts.delivered_count (f.window.order (d + 1) e a.next d refl) in
      let quiet = quiet-event meaning me h happened refl refl i.trace (delivers-goes h c v e a.open_in.view x next) tt in
      let m = quiet.later in
      let delivered_now = delivered_in-hit me v.id t y (is_delivery_to-at y) in
      let list = list_of-hit me v.id t y (is_delivery_to-at y) in
      let sent = sent_in-still me v.id t happened refl in
      let tally : tally_of me v.id t ≡ record { phase = Open; count = d } = f.counts.tally ∙ ap (λ b. record { phase = cond b Open Past; count = d }) a.open_in.installed in
      let fact : ViewFact k me c.installed (delivered_more me (e ∷ []) c.view_state) c.sent_installs v = record {
        inside = inside-later h k me v m f.inside;
        counts = record {
          delivered_count = ap length list ∙ length_push (list_of me v.id t) e ∙ ap (λ n. n + 1) f.counts.delivered_count;
          tally = tally_of-push me v.id t happened ∙ ap (λ z. tally_after me v.id z happened) tally
              ∙ cond-true (is_delivery_to me v.id y) (record { phase = Open; count = d + 1 }) (record { phase = Open; count = d }) (is_delivery_to-at y)
              ∙ ap (λ b. record { phase = cond b Open Past; count = d + 1 }) (sym a.open_in.installed);
        };
        mine = record {
          sent = sent ∙ own-next t me v.id c.view_state.outstanding e f.mine.sent next ∙ ap (λ l. own me l ++ left_of me (e ∷ []) c.view_state.outstanding) (sym delivered_now);
          count = ap length sent ∙ f.mine.count;
        };
        window =
            let w = window-later h k v.id c.view_state.stable d c.view_state.held m (first-entered t v.id.creator v f.inside.first) f.window in
            record { order = w.order; all = all-next c.view_state e f.window.all a.next; near = w.near; all_have = w.all_have };
        acks = acks-later h k v.id c.view_state.acks m f.acks;
        waiting = waiting-later h k v.id c.view_state.waiting m f.waiting;
        ordered = λ q first. absurd (let n : true ≡ false = sym first ∙ a.other in cc);
        keeps = λ q j there. let was = f.keeps q j there in (was.0, m.install v.id q j was.1);
      } in
      let new : Fact k me (delivered_next c e) = record {
        standing = record {
          itself = refl;
          running = record { started = has_started-stays me t (happened ∷ []) x.standing.running.started; going = has_ended-still me t happened refl ∙ x.standing.running.going };
          current = current_view-push me t happened ∙ x.standing.current;
          block = is_blocked-push me t happened ∙ x.standing.block;
        };
        promise = x.promise;
        announced = x.announced;
        below = x.below;
        reported = λ waits. absurd (let n : true ≡ false = sym a.open_in.installed ∙ waits in cc);
        flush = λ g z. absurd (let n : true ≡ false = sym a.open_in.installed ∙ (x.flush g z).waits in cc);
        view = λ u z. subst (λ (w : View). ViewFact k me c.installed (delivered_more me (e ∷ []) c.view_state) c.sent_installs w) (same_Some v u (sym a.open_in.view ∙ z)) fact;
        state = record {
          now = state_of-push meaning me t happened
              ∙ cond-true (same_address me me) (meaning.apply (state_of meaning me t) e.sender e.payload) (state_of meaning me t) (same_address-refl me)
              ∙ ap (λ z. meaning.apply z e.sender e.payload) x.state.now;
          is = next-state meaning h me v.id e c.state law i.trace next x.state.is;
          in_view = λ u z.
              subst (λ (w : View). state_with meaning w.id (list_of me w.id k.trace) k.trace ≡ Some (applied meaning c.state (e ∷ []))) (same_Some v u (sym a.open_in.view ∙ z))
              (ap (λ l. state_with meaning v.id l k.trace) list
              ∙ ap (option_map _) (quiet.begun v.id)
              ∙ state_with-more meaning v.id (list_of me v.id t) e t c.state (x.state.in_view v a.open_in.view));
        };
      } in
      subst (λ (l : History). Invariant meaning (record { running = put me (Some (delivered_next c e)) s.running; history = l }))
      (sym (grown-trace meaning h (happened ∷ [])))
      (moved meaning s me k (Some (delivered_next c e)) i
      (quiet-moves meaning s me k [] (Some (delivered_next c e)) i quiet (sym (append-nil h.pool)) (λ n z at. absurd (none-some z at))
      (λ g z. subst (λ (w : Core S). Fact k me w) (same_Some (delivered_next c e) g z) new)))
