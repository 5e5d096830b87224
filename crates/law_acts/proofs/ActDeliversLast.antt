-- A member is delivered the last entries of the view from which it goes.
use Rattle.std.proofs.Common.{◌≡◌, ℕ, zero, suc, ◌+◌, ◌-◌, ◌≤◌, Bool, true, false, Option, Some, None, List, [], ◌∷◌, ◌++◌, length, map, drop, refl, sym, ap, ◌∙◌, subst, arith}
use Rattle.std.specs.Prelude.{slice_get}
use Rattle.std.specs.Option.{ForSome}
use Rattle.std.proofs.lemmas.Bool.{cond-true}
use Rattle.std.proofs.lemmas.Option.{none-some, same_Some, slice_get_past}
use Rattle.std.proofs.lemmas.List.{append-nil, append_assoc, length-drop, length_push, length-append}
use Rattle.std.proofs.lemmas.List.Elements.{filter_map-append}
use Rattle.address.specs.Ids.{Address, ViewId, IsAddress, same_address}
use Rattle.view.specs.Members.{View}
use Rattle.address.specs.declared.limits.TheConstants.{PAYLOAD}
use Rattle.wire_values.specs.Values.{Entry}
use Rattle.state_transfer.specs.Meanings.{Meaning}
use Rattle.trace_props.specs.declared.event.Event.{Event}
use Rattle.trace_props.specs.declared.event.Event.TheVariants.{Delivered}
use Rattle.trace_props.specs.declared.event.Delivery.{Delivery}
use Rattle.trace_props.specs.declared.event.Numbered.{Numbered}
use Rattle.trace_props.specs.Observed.{current_view, delivered_in, sent_in, own, own_by}
use Rattle.trace_props.specs.Rules.{IsRunning}
use Rattle.trace_props.specs.State.{state_of}
use Rattle.trace_props.specs.Verdicts.{GoesOn}
use Rattle.trace_props.proofs.RulesAlongLists.{slice_get-drop}
use Rattle.trace_props.proofs.RuleOfEntry.{state_of-push}
use Rattle.address.proofs.SameIds.{same_address-true, same_address-refl}
use Rattle.trace_props.proofs.ObservedGrow.{has_started-stays, has_ended-still, current_view-push}
use Rattle.trace_props.proofs.DeliveredGrow.{is_delivery_to-at, delivered_in-hit, sent_in-still}
use Rattle.law_acts.specs.Words.{message_for, list_of, order_of}
use Rattle.law_acts.specs.Histories.{History}
use Rattle.law_acts.specs.Cores.{Core, id_of, left_of, applied}
use Rattle.law_acts.specs.Acts.{delivery, deliveries, undelivered}
use Rattle.law_acts.specs.Members.{MemberFact}
use Rattle.law_acts.specs.Invariant.{TraceFact}
use Rattle.law_acts.proofs.TalliesGrow.{list_of-hit, list_of-other}
use Rattle.law_acts.proofs.KeepTrace.{rules-of}
use Rattle.law_acts.proofs.KeepWithoutInstall.{Quiet, quiet-refl, quiet-trans, quiet-event}
use Rattle.law_acts.proofs.OrderedDeliveries.{next-of-order}
use Rattle.law_acts.proofs.ActDelivers.{own-next, next-state}
use Rattle.std.proofs.Math.Seq.{drop-nil}

-- entries that come next in a view's order, for one to whom so many were delivered
abbrev pub Follow : List Event → Address → ViewId → List Entry → Type 0
Follow t p v entries = (j : ℕ) (e : Entry) → slice_get entries j ≡ Some e → slice_get (order_of v t) (length (list_of p v t) + j) ≡ Some e

-- ---- of a cut what was not delivered yet

-- what was not delivered yet ends where the cut ends
pub undelivered-end : (d base : ℕ) (items : List Entry) → base ≤ d → d ≤ base + length items → d + length (undelivered d base items) ≡ base + length items
undelivered-end d base items low high = let long : length (drop (d - base) items) ≡ length items - (d - base) = length-drop (d - base) items in omega arith

-- and it comes next in the order of the view
pub undelivered-follow : (t : List Event) (p : Address) (v : ViewId) (d base : ℕ) (items : List Entry) → length (list_of p v t) ≡ d → base ≤ d
    → ((j : ℕ) (e : Entry) → slice_get items j ≡ Some e → slice_get (order_of v t) (base + j) ≡ Some e) → Follow t p v (undelivered d base items)
undelivered-follow t p v d base items count_is low order j e at =
    let there : slice_get items (d - base + j) ≡ Some e = sym (slice_get-drop (d - base) items j) ∙ at in
    let same : length (list_of p v t) + j ≡ base + (d - base + j) = omega arith in
    ap (slice_get (order_of v t)) same ∙ order (d - base + j) e there

-- ---- their delivery

-- what is left after some and then others is what is left after all of them
drop-twice : {X : Type 0} (n m : ℕ) (xs : List X) → drop m (drop n xs) ≡ drop (n + m) xs
drop-twice zero m xs = ap (λ k. drop k xs) (let e : m ≡ 0 + m = omega arith in e)
drop-twice (suc n) m [] = drop-nil m ∙ sym (drop-nil (suc n + m))
drop-twice (suc n) m (x ∷ xs) = drop-twice n m xs ∙ ap (λ k. drop k (x ∷ xs)) (let e : suc (n + m) ≡ suc n + m = omega arith in e)

-- of the own messages, when an entry is delivered and then others
left-more : (p : Address) (e : Entry) (entries : List Entry) (rest : List Numbered) → left_of p (e ∷ entries) rest ≡ left_of p entries (left_of p (e ∷ []) rest)
left-more p e entries rest =
    let one = own p (message_for e ∷ []) in
    let others = own p (map message_for entries) in
    ap (λ l. drop (length l) rest) (filter_map-append (own_by p) (message_for e ∷ []) (map message_for entries))
    ∙ ap (λ n. drop n rest) (length-append one others) ∙ sym (drop-twice (length one) (length others) rest)

-- who is delivered the next of the order of its view is not the first there
not-first : (b : Bool) (t : List Event) (p : Address) (v : ViewId) (e : Entry) → same_address p v.creator ≡ b → slice_get (order_of v t) (length (list_of p v t)) ≡ Some e
    → same_address p v.creator ≡ false
not-first false t p v e test at = test
not-first true t p v e test at =
    let here : slice_get (list_of p v t) (length (list_of p v t)) ≡ Some e =
    ap (λ q. slice_get (list_of q v t) (length (list_of p v t))) (same_address-true p v.creator test) ∙ at in
    absurd (none-some e (sym (slice_get_past (list_of p v t) (length (list_of p v t)) (omega arith)) ∙ here))

-- the history after entries were delivered to a member in a view
abbrev pub delivered_on : History → Address → Option View → List Entry → History
delivered_on h p v entries = record { pool = h.pool; trace = h.trace ++ deliveries p v entries }

module _ {S : Type 0} (meaning : Meaning S) where
  abbrev pub Law : Type 0
  Law = (z : S) (from : Address) (payload : List ℕ) → meaning.is_state z → IsAddress from → length payload ≤ PAYLOAD → meaning.is_state (meaning.apply z from payload)

  abbrev Fact : History → Address → Core S → Type 0
  Fact h p c = MemberFact meaning h p c

  -- what is so of a view after entries were delivered there
  pub record CatchesUp (h k : History) (p : Address) (v : ViewId) (rest : List Numbered) (entries : List Entry) : Type 0 where
    pub list : list_of p v k.trace ≡ list_of p v h.trace ++ entries
    pub order : order_of v k.trace ≡ order_of v h.trace
    pub sent : sent_in p v k.trace ≡ own p (delivered_in p v k.trace) ++ left_of p entries rest

  -- what is so of a member in a view after entries were delivered to it there
  record DeliversLast (h k : History) (p : Address) (v : ViewId) (rest : List Numbered) (s : S) (entries : List Entry) : Type 0 where
    quiet : Quiet meaning p h k
    running : IsRunning p k.trace
    current : current_view p k.trace ≡ Some v
    view : CatchesUp h k p v rest entries
    state : state_of meaning p k.trace ≡ applied meaning s entries
    is : meaning.is_state (applied meaning s entries)

  -- what is so of it before
  record Stands (h : History) (p : Address) (v : ViewId) (rest : List Numbered) (s : S) : Type 0 where
    trace : TraceFact meaning h
    running : IsRunning p h.trace
    current : current_view p h.trace ≡ Some v
    sent : sent_in p v h.trace ≡ own p (delivered_in p v h.trace) ++ rest
    state : state_of meaning p h.trace ≡ s
    is : meaning.is_state s

  -- no entry is delivered
  delivers-none : (h : History) (p : Address) (v : ViewId) (rest : List Numbered) (s : S) → Stands h p v rest s
      → DeliversLast h (record { pool = h.pool; trace = h.trace ++ [] }) p v rest s []
  delivers-none h p v rest s x =
      subst (λ (t : List Event). DeliversLast h (record { pool = h.pool; trace = t }) p v rest s []) (sym (append-nil h.trace)) (record {
        quiet = quiet-refl meaning p h x.trace;
        running = x.running;
        current = x.current;
        view = record { list = sym (append-nil (list_of p v h.trace)); order = refl; sent = x.sent };
        state = x.state;
        is = x.is;
      })

  -- what is so of it after the first of them
  record First (h : History) (p : Address) (v : ViewId) (rest : List Numbered) (s : S) (e : Entry) (entries : List Entry) : Type 0 where
    quiet : Quiet meaning p h (record { pool = h.pool; trace = h.trace ++ delivery p v e ∷ [] })
    list : list_of p v (h.trace ++ delivery p v e ∷ []) ≡ list_of p v h.trace ++ e ∷ []
    order : order_of v (h.trace ++ delivery p v e ∷ []) ≡ order_of v h.trace
    stands : Stands (record { pool = h.pool; trace = h.trace ++ delivery p v e ∷ [] }) p v (left_of p (e ∷ []) rest) (meaning.apply s e.sender e.payload)
    follow : Follow (h.trace ++ delivery p v e ∷ []) p v entries

  -- the first of some entries is delivered
  delivers-first : (h : History) (p : Address) (v : ViewId) (rest : List Numbered) (s : S) (e : Entry) (entries : List Entry) → Law → Stands h p v rest s → Follow h.trace p v (e ∷ entries)
      → First h p v rest s e entries
  delivers-first h p v rest s e entries law x follow =
      let t = h.trace in
      let d : Delivery = record { member = p; view = v; message = message_for e } in
      let happened = Delivered d in
      let n = length (list_of p v t) in
      let rules = rules-of meaning h x.trace in
      let at : slice_get (order_of v t) n ≡ Some e = ap (slice_get (order_of v t)) (let z : n ≡ n + 0 = omega arith in z) ∙ follow 0 e refl in
      let other = not-first (same_address p v.creator) t p v e refl at in
      let next = next-of-order t p v e n rules.ordered.messages rules.ordered.order refl at in
      let goes : GoesOn meaning t happened = record {
        seven = (tt, (tt, (tt, ((λ first. next.order), ((next.number, next.sent), (tt, ((x.running, x.current), tt)))))));
        enters = tt;
      } in
      let quiet = quiet-event meaning p h happened refl refl x.trace goes tt in
      let delivered_now = delivered_in-hit p v t d (is_delivery_to-at d) in
      let list : list_of p v (t ++ happened ∷ []) ≡ list_of p v t ++ e ∷ [] = list_of-hit p v t d (is_delivery_to-at d) in
      let order : order_of v (t ++ happened ∷ []) ≡ order_of v t = list_of-other v.creator v t happened other in
      record {
        quiet = quiet;
        list = list;
        order = order;
        stands = record {
          trace = quiet.trace;
          running = record { started = has_started-stays p t (happened ∷ []) x.running.started; going = has_ended-still p t happened refl ∙ x.running.going };
          current = current_view-push p t happened ∙ x.current;
          sent = sent_in-still p v t happened refl ∙ own-next t p v rest e x.sent next ∙ ap (λ l. own p l ++ left_of p (e ∷ []) rest) (sym delivered_now);
          state = state_of-push meaning p t happened
              ∙ cond-true (same_address p p) (meaning.apply (state_of meaning p t) e.sender e.payload) (state_of meaning p t) (same_address-refl p)
              ∙ ap (λ z. meaning.apply z e.sender e.payload) x.state;
          is = next-state meaning h p v e s law x.trace next x.is;
        };
        follow = λ j y there.
            let long : length (list_of p v (t ++ happened ∷ [])) ≡ n + 1 = ap length list ∙ length_push (list_of p v t) e in
            let same : length (list_of p v (t ++ happened ∷ [])) + j ≡ n + suc j = omega arith in
            ap (λ l. slice_get l (length (list_of p v (t ++ happened ∷ [])) + j)) order ∙ ap (slice_get (order_of v t)) same ∙ follow (suc j) y there;
      }

  -- all of them are delivered
  delivers-last : (h : History) (p : Address) (v : ViewId) (rest : List Numbered) (s : S) (entries : List Entry) → Law → Stands h p v rest s → Follow h.trace p v entries
      → DeliversLast h (record { pool = h.pool; trace = h.trace ++ map (delivery p v) entries }) p v rest s entries
  delivers-last h p v rest s [] law x follow = delivers-none h p v rest s x
  delivers-last h p v rest s (e ∷ entries) law x follow =
      let k : History = record { pool = h.pool; trace = h.trace ++ delivery p v e ∷ [] } in
      let l : History = record { pool = h.pool; trace = h.trace ++ delivery p v e ∷ [] ++ map (delivery p v) entries } in
      let one = delivers-first h p v rest s e entries law x follow in
      let all : DeliversLast k l p v (left_of p (e ∷ []) rest) (meaning.apply s e.sender e.payload) entries =
      delivers-last k p v (left_of p (e ∷ []) rest) (meaning.apply s e.sender e.payload) entries law one.stands one.follow in
      subst (λ (t : List Event). DeliversLast h (record { pool = h.pool; trace = t }) p v rest s (e ∷ entries))
      (append_assoc h.trace (delivery p v e ∷ []) (map (delivery p v) entries)) (record {
        quiet = quiet-trans meaning p h k l one.quiet all.quiet;
        running = all.running;
        current = all.current;
        view = record {
          list = all.view.list ∙ ap (λ z. z ++ entries) one.list ∙ append_assoc (list_of p v h.trace) (e ∷ []) entries;
          order = all.view.order ∙ one.order;
          sent = all.view.sent ∙ ap (λ z. own p (delivered_in p v l.trace) ++ z) (sym (left-more p e entries rest));
        };
        state = all.state;
        is = all.is;
      })

  -- what is so of a member after the last entries of its view were delivered to it, if it has one
  pub record GoesOut (h k : History) (c : Core S) (entries : List Entry) : Type 0 where
    pub quiet : Quiet meaning c.me h k
    pub running : IsRunning c.me k.trace
    pub current : current_view c.me k.trace ≡ id_of c.view
    pub view : ForSome c.view (λ v. CatchesUp h k c.me v.id c.view_state.outstanding entries)
    pub state : state_of meaning c.me k.trace ≡ applied meaning c.state entries
    pub is : meaning.is_state (state_of meaning c.me k.trace)

  -- to a member without a view nothing is delivered
  goes-none : (h : History) (c : Core S) (entries : List Entry) → TraceFact meaning h → Fact h c.me c → c.view ≡ None → entries ≡ []
      → GoesOut h (delivered_on h c.me c.view entries) c entries
  goes-none h c entries trace x is none =
      subst (λ (o : Option View). GoesOut h (delivered_on h c.me o entries) c entries) (sym is)
      (subst (λ (t : List Event). GoesOut h (record { pool = h.pool; trace = t }) c entries) (sym (append-nil h.trace)) (record {
        quiet = quiet-refl meaning c.me h trace;
        running = x.standing.running;
        current = x.standing.current;
        view = λ v e. absurd (none-some v (sym is ∙ e));
        state = x.state.now ∙ ap (applied meaning c.state) (sym none);
        is = subst meaning.is_state (sym x.state.now) x.state.is;
      }))

  -- a member with a view
  goes-from : (h : History) (c : Core S) (v : View) (entries : List Entry) → Law → TraceFact meaning h → Fact h c.me c → c.view ≡ Some v → Follow h.trace c.me v.id entries
      → GoesOut h (delivered_on h c.me c.view entries) c entries
  goes-from h c v entries law trace x is follow =
      let k : History = delivered_on h c.me (Some v) entries in
      let f = x.view v is in
      let stands : Stands h c.me v.id c.view_state.outstanding c.state = record {
        trace = trace;
        running = x.standing.running;
        current = x.standing.current ∙ ap id_of is;
        sent = f.mine.sent;
        state = x.state.now;
        is = x.state.is;
      } in
      let all = delivers-last h c.me v.id c.view_state.outstanding c.state entries law stands follow in
      subst (λ (o : Option View). GoesOut h (delivered_on h c.me o entries) c entries) (sym is) (record {
        quiet = all.quiet;
        running = all.running;
        current = all.current ∙ ap id_of (sym is);
        view = λ u e. subst (λ (w : View). CatchesUp h k c.me w.id c.view_state.outstanding entries) (same_Some v u (sym is ∙ e)) all.view;
        state = all.state;
        is = subst meaning.is_state (sym all.state) all.is;
      })

  -- a member is delivered the last entries of its view, if it has one
  pub goes-out : (h : History) (c : Core S) (entries : List Entry) → Law → TraceFact meaning h → Fact h c.me c
      → ForSome c.view (λ v. Follow h.trace c.me v.id entries) → (c.view ≡ None → entries ≡ [])
      → GoesOut h (delivered_on h c.me c.view entries) c entries
  goes-out h c entries law trace x follow none = by c.view refl
    where
      by : (o : Option View) → c.view ≡ o → GoesOut h (delivered_on h c.me c.view entries) c entries
      by None is = goes-none h c entries trace x is (none is)
      by (Some v) is = goes-from h c v entries law trace x is (follow v is)
