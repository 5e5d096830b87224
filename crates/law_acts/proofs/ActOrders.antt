-- The act Orders: a view's coordinator orders the next message of a sender, and delivers it by that.
use Rattle.std.proofs.Common.{◌≡◌, ℕ, ◌+◌, ◌<◌, ◌≤◌, Bool, true, false, cond, Some, List, [], ◌∷◌, ◌++◌, length, refl, sym, ap, ◌∙◌, subst, arith, is_some, nat_eq}
use Rattle.std.specs.Prelude.{slice_get}
use Rattle.std.specs.Option.{option_map}
use Rattle.std.proofs.lemmas.Bool.{cond-true, cond-false}
use Rattle.std.proofs.lemmas.Bool.Decides.{nat_tests}
use Rattle.std.proofs.lemmas.Option.{none-some, same_Some}
use Rattle.std.proofs.lemmas.List.{append-nil, length_push}
use Rattle.address.specs.Ids.{Address, ViewId, same_address}
use Rattle.view.specs.Members.{View}
use Rattle.address.specs.declared.limits.TheConstants.{WINDOW}
use Rattle.wire_values.specs.Values.{Entry, held_at}
use Rattle.state_transfer.specs.Meanings.{Meaning}
use Rattle.trace_props.specs.declared.event.Event.{Event}
use Rattle.trace_props.specs.declared.event.Event.TheVariants.{Delivered}
use Rattle.trace_props.specs.declared.event.Delivery.{Delivery}
use Rattle.trace_props.specs.declared.event.Message.{Message}
use Rattle.trace_props.specs.Observed.{delivered_in, sent_in, own, numbered}
use Rattle.trace_props.specs.Verdicts.{GoesOn}
use Rattle.trace_props.specs.State.{state_of}
use Rattle.trace_props.proofs.RulesAlongLists.{slice_get-last}
use Rattle.address.proofs.SameIds.{same_address-true, same_address-sym, same_address-refl}
use Rattle.trace_props.proofs.ObservedGrow.{has_started-stays, has_ended-still, current_view-push, is_blocked-push}
use Rattle.trace_props.proofs.DeliveredGrow.{is_delivery_to, is_delivery_to-at, delivered_in-hit, sent_in-still, own-hit, own-miss}
use Rattle.trace_props.proofs.RuleOfEntry.{state_of-push}
use Rattle.law_acts.specs.Words.{Open, Past, message_for, list_of, tally_of, tally_after}
use Rattle.law_acts.specs.Histories.{History}
use Rattle.law_acts.specs.Cores.{ViewCore, Core, id_of, left_of, delivered_more, applied}
use Rattle.law_acts.specs.Acts.{Orders, MayOrder, HoldsMore, one_more}
use Rattle.law_acts.specs.Steps.{System, acted, put}
use Rattle.law_acts.specs.Packets.{IsOrdered, HoldsAll, state_with}
use Rattle.law_acts.specs.Members.{HasWindow, HasWaiting, HasOrdered, ViewFact, MemberFact}
use Rattle.law_acts.specs.Invariant.{Invariant}
use Rattle.law_acts.proofs.Lists.{place-of}
use Rattle.law_acts.proofs.TalliesGrow.{list_of-hit, tally_of-push}
use Rattle.law_acts.proofs.KeepPackets.{sent-later}
use Rattle.law_acts.proofs.KeepOthers.{inside-later, window-later, acks-later, first-entered}
use Rattle.law_acts.proofs.KeepByMove.{moved}
use Rattle.law_acts.proofs.KeepWithoutInstall.{quiet-event, quiet-moves, grown-trace}
use Rattle.law_acts.proofs.ActChangesOwn.{held-order, held-near}
use Rattle.law_acts.proofs.ActDelivers.{own-by, sender-started, state_with-more}
use Rattle.law_acts.proofs.ActDeliversLast.{Law}

-- ---- what may be ordered

-- what is needed of a message that the coordinator orders: it was sent, and it is its sender's next there
record IsDue (t : List Event) (p : Address) (v : ViewId) (m : Message) : Type 0 where
  number : m.number ≡ length (own m.sender (delivered_in p v t)) + 1
  sent : slice_get (sent_in m.sender v t) (length (own m.sender (delivered_in p v t))) ≡ Some (numbered m)

-- what waits was sent, and what was ordered is counted, so a message that may be ordered is due
due-of : {S : Type 0} (t : List Event) (c : Core S) (v : View) (e : Entry) (waiting : List Entry) (held : List (ℕ × Entry)) → HasWaiting t v.id c.view_state.waiting
    → HasOrdered t c.me v.id c.view_state.ordered → MayOrder c v e waiting held → IsDue t c.me v.id (message_for e)
due-of t c v e waiting held waits ordered a =
    let at = place-of c.view_state.waiting e a.waits in
    let number : e.number ≡ length (own e.sender (delivered_in c.me v.id t)) + 1 = a.next ∙ ap (λ n. n + 1) (ordered e.sender a.first) in
    record { number = number; sent = waits at.0 e at.1 (length (own e.sender (delivered_in c.me v.id t))) number }

-- ---- what is held and counted afterwards

-- at the view's coordinator the order is its own list, so it ends with the new entry
ordered-last : (t u : List Event) (p : Address) (v : ViewId) (d : ℕ) (e : Entry) → same_address p v.creator ≡ true → list_of p v u ≡ list_of p v t ++ e ∷ [] → length (list_of p v t) ≡ d
    → IsOrdered u v (d + 1) e
ordered-last t u p v d e first list count_is k number =
    let here : length (list_of p v t) ≡ k = omega arith in
    ap (λ q. slice_get (list_of q v u) k) (sym (same_address-true p v.creator first)) ∙ ap (λ l. slice_get l k) list
    ∙ ap (slice_get (list_of p v t ++ e ∷ [])) (sym here) ∙ slice_get-last (list_of p v t) e

-- all is held up to the new number
all-by : (b : Bool) (held new : List (ℕ × Entry)) (s d g : ℕ) (e : Entry) → nat_eq g (d + 1) ≡ b → HoldsMore held (d + 1) e new → HoldsAll s d held → s < g → g ≤ d + 1
    → is_some (held_at g new) ≡ true
all-by true held new s d g e test more all past within = ap is_some (more.now g ∙ cond-true (nat_eq g (d + 1)) (Some e) (held_at g held) test)
all-by false held new s d g e test more all past within =
    let low : g ≤ d = grind (arith, nat_tests) in
    ap is_some (more.now g ∙ cond-false (nat_eq g (d + 1)) (Some e) (held_at g held) test) ∙ all g past low

-- the window with the new entry at the number after those that were delivered
window-next : (t : List Event) (v : ViewId) (s d : ℕ) (old new : List (ℕ × Entry)) (e : Entry) → HasWindow t v s d old → IsOrdered t v (d + 1) e → d < s + WINDOW
    → HoldsMore old (d + 1) e new → HasWindow t v s (d + 1) new
window-next t v s d old new e w is room more = record {
  order = λ g x at. held-order (nat_eq g (d + 1)) t v old new (d + 1) g e x refl more w.order is at;
  all = λ g past within. all-by (nat_eq g (d + 1)) old new s d g e refl more w.all past within;
  near = λ g there. held-near (nat_eq g (d + 1)) old new (d + 1) g (s + WINDOW) e refl more (omega arith) (λ y. w.near g y) there;
  all_have = w.all_have;
}

-- of the sender one more was ordered, of all others as many as before
ordered-by : (b : Bool) (q : Address) (so_far : List Message) (m : Message) (n : ℕ) → same_address q m.sender ≡ b → n ≡ length (own q so_far)
    → cond b (n + 1) n ≡ length (own q (so_far ++ m ∷ []))
ordered-by true q so_far m n test is =
    ap (λ z. z + 1) is ∙ sym (length_push (own q so_far) (numbered m)) ∙ ap length (sym (own-hit q so_far m (same_address-sym m.sender q ∙ test)))
ordered-by false q so_far m n test is = is ∙ ap length (sym (own-miss q so_far m (same_address-sym m.sender q ∙ test)))

-- ---- the act

module _ {S : Type 0} (meaning : Meaning S) where
  abbrev Fact : History → Address → Core S → Type 0
  Fact h p c = MemberFact meaning h p c

  abbrev delivery_of : Core S → View → Entry → Delivery
  delivery_of c v e = record { member = c.me; view = v.id; message = message_for e }

  -- the traffic and the core after it
  abbrev ordering : Core S → Entry → List Entry → List (ℕ × Entry) → ViewCore
  ordering c e waiting held = record (delivered_more c.me (e ∷ []) c.view_state) { waiting = waiting; held = held; ordered = one_more e.sender c.view_state.ordered }

  abbrev with_ordered : Core S → Entry → List Entry → List (ℕ × Entry) → Core S
  with_ordered c e waiting held = record c { view_state = ordering c e waiting held; state = applied meaning c.state (e ∷ []) }

  -- it may follow
  orders-goes : (h : History) (c : Core S) (v : View) (e : Entry) → c.view ≡ Some v → same_address c.me v.id.creator ≡ true → Fact h c.me c → IsDue h.trace c.me v.id (message_for e)
      → GoesOn meaning h.trace (Delivered (delivery_of c v e))
  orders-goes h c v e is first x due = record {
    seven = (tt, (tt, (tt, ((λ other. absurd (let n : true ≡ false = sym first ∙ other in cc)), ((due.number, due.sent), (tt, ((x.standing.running, x.standing.current ∙ ap id_of is), tt)))))));
    enters = tt;
  }

  -- the act keeps the invariant
  pub orders-keep : (s : System S) (c : Core S) (v : View) (e : Entry) (waiting : List Entry) (held : List (ℕ × Entry)) → Law meaning
      → Invariant meaning s → Fact s.history c.me c → MayOrder c v e waiting held
      → Invariant meaning (acted meaning s c.me (Orders v e waiting held) c)
  orders-keep s c v e waiting held law i x a =
      let h = s.history in
      let t = h.trace in
      let me = c.me in
      let y = delivery_of c v e in
      let happened = Delivered y in
      let k : History = record { pool = h.pool; trace = t ++ happened ∷ [] } in
      let f = x.view v a.open_in.view in
      let d = c.view_state.delivered in
      let due = due-of t c v e waiting held f.waiting f.ordered a in
      let quiet = quiet-event meaning me h happened refl refl i.trace (orders-goes h c v e a.open_in.view a.first x due) tt in
      let m = quiet.later in
      let delivered_now = delivered_in-hit me v.id t y (is_delivery_to-at y) in
      let list : list_of me v.id k.trace ≡ list_of me v.id t ++ e ∷ [] = list_of-hit me v.id t y (is_delivery_to-at y) in
      let sent = sent_in-still me v.id t happened refl in
      let tally : tally_of me v.id t ≡ record { phase = Open; count = d } = f.counts.tally ∙ ap (λ b. record { phase = cond b Open Past; count = d }) a.open_in.installed in
      let fact : ViewFact k me c.installed (ordering c e waiting held) c.sent_installs v = record {
        inside = inside-later h k me v m f.inside;
        counts = record {
          delivered_count = ap length list ∙ length_push (list_of me v.id t) e ∙ ap (λ n. n + 1) f.counts.delivered_count;
          tally = tally_of-push me v.id t happened ∙ ap (λ z. tally_after me v.id z happened) tally
              ∙ cond-true (is_delivery_to me v.id y) (record { phase = Open; count = d + 1 }) (record { phase = Open; count = d }) (is_delivery_to-at y)
              ∙ ap (λ b. record { phase = cond b Open Past; count = d + 1 }) (sym a.open_in.installed);
        };
        mine = record {
          sent = sent
              ∙ own-by (same_address e.sender me) me (delivered_in me v.id t) (sent_in me v.id t) c.view_state.outstanding (message_for e) refl f.mine.sent
              (λ same. ap (λ q. slice_get (sent_in q v.id t) (length (own e.sender (delivered_in me v.id t)))) (sym same) ∙ due.sent)
              ∙ ap (λ l. own me l ++ left_of me (e ∷ []) c.view_state.outstanding) (sym delivered_now);
          count = ap length sent ∙ f.mine.count;
        };
        window =
            let w = window-later h k v.id c.view_state.stable d c.view_state.held m (first-entered t v.id.creator v f.inside.first) f.window in
            window-next k.trace v.id c.view_state.stable d c.view_state.held held e w (ordered-last t k.trace me v.id d e a.first list f.counts.delivered_count) a.room a.more;
        acks = acks-later h k v.id c.view_state.acks m f.acks;
        waiting = λ n z at. let was = place-of c.view_state.waiting z (a.fewer n z at) in sent-later h k v.id z m (f.waiting was.0 z was.1);
        ordered = λ q first.
            ordered-by (same_address q e.sender) q (delivered_in me v.id t) (message_for e) (c.view_state.ordered q) refl (f.ordered q first) ∙ ap (λ l. length (own q l)) (sym delivered_now);
        keeps = λ q j there. let was = f.keeps q j there in (was.0, m.install v.id q j was.1);
      } in
      let after : Core S = with_ordered c e waiting held in
      let new : Fact k me after = record {
        standing = record {
          itself = refl;
          running = record { started = has_started-stays me t (happened ∷ []) x.standing.running.started; going = has_ended-still me t happened refl ∙ x.standing.running.going };
          current = current_view-push me t happened ∙ x.standing.current;
          block = is_blocked-push me t happened ∙ x.standing.block;
        };
        promise = x.promise;
        announced = x.announced;
        below = x.below;
        reported = λ waits. absurd (let n : true ≡ false = sym a.open_in.installed ∙ waits in cc);
        flush = λ g z. absurd (let n : true ≡ false = sym a.open_in.installed ∙ (x.flush g z).waits in cc);
        view = λ u z. subst (λ (w : View). ViewFact k me c.installed (ordering c e waiting held) c.sent_installs w) (same_Some v u (sym a.open_in.view ∙ z)) fact;
        state = record {
          now = state_of-push meaning me t happened
              ∙ cond-true (same_address me me) (meaning.apply (state_of meaning me t) e.sender e.payload) (state_of meaning me t) (same_address-refl me)
              ∙ ap (λ z. meaning.apply z e.sender e.payload) x.state.now;
          is = law c.state e.sender e.payload x.state.is
              (i.trace.proper e.sender (sender-started meaning h e.sender v.id _ _ i.trace due.sent)) (i.trace.short e.sender v.id _ _ due.sent);
          in_view = λ u z.
              subst (λ (w : View). state_with meaning w.id (list_of me w.id k.trace) k.trace ≡ Some (applied meaning c.state (e ∷ []))) (same_Some v u (sym a.open_in.view ∙ z))
              (ap (λ l. state_with meaning v.id l k.trace) list
              ∙ ap (option_map _) (quiet.begun v.id)
              ∙ state_with-more meaning v.id (list_of me v.id t) e t c.state (x.state.in_view v a.open_in.view));
        };
      } in
      subst (λ (l : History). Invariant meaning (record { running = put me (Some after) s.running; history = l }))
      (sym (grown-trace meaning h (happened ∷ [])))
      (moved meaning s me k (Some after) i
      (quiet-moves meaning s me k [] (Some after) i quiet (sym (append-nil h.pool)) (λ n z at. absurd (none-some z at))
      (λ g z. subst (λ (w : Core S). Fact k me w) (same_Some after g z) new)))
