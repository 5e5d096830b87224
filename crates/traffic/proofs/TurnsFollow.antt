-- One turn after another.
use Rattle.std.proofs.Common.{◌≡◌, ℕ, ◌+◌, Bool, true, false, Option, Some, None, List, [], ◌∷◌, ◌++◌, map, length, refl, sym, ap, ◌∙◌, subst, arith, append_assoc, is_some, length-append}
use Rattle.std.specs.Prelude.{MatchOption}
use Rattle.std.specs.Option.{option_map}
use Rattle.std.proofs.lemmas.Bool.{cond-true}
use Rattle.std.proofs.lemmas.Option.{none-some, same_Some}
use Rattle.std.proofs.lemmas.List.{append-nil, map-append}
use Rattle.std.proofs.lemmas.List.Sums.{fold-append}
use Rattle.address.specs.Ids.{Address}
use Rattle.view.specs.Members.{View}
use Rattle.wire_values.specs.Values.{Entry}
use Rattle.wire_values.specs.declared.packet.Body.TheVariants as bodies
use Rattle.wire_values.specs.Posted.{Posted, packet}
use Rattle.state_transfer.specs.Meanings.{Meaning}
use Rattle.sequencer.specs.Queues.{next_ordered, ordering, OrdererModel, change_first, has_next, served}
use Rattle.law_acts.specs.Acts.{others_of, delivery}
use Rattle.traffic.specs.declared.coordinator.Coordinator.{Coordinator}
use Rattle.step_output.specs.declared.output.Output.{Output}
use Rattle.step_output.specs.Outputs.{Grows}
use Rattle.traffic.specs.Coordinators.{OrdersOne, ServesOne, after_one, holding, acknowledged}
use Rattle.traffic.specs.Turns.{order_of, orders_of, TurnsTo, Starts, Turns, TurnsOne, TurnsNext, Ordering}
use Rattle.stability.specs.Counts.{count_of}
use Rattle.traffic.proofs.AcksKnown.{noted-other}
use Rattle.step_output.proofs.GrowthAdds.{grows-nothing, grows-then}
use Rattle.step_output.specs.Steps.{Who, who}
use Rattle.traffic.specs.InViews.{InView, in_view}

orders-one : (p : Address) (v : View) (k : ℕ) (es : List Entry) (e : Entry) → orders_of p v k (es ++ e ∷ []) ≡ orders_of p v k es ++ order_of p v (k + length es + 1) e
orders-one p v k [] e = append-nil (order_of p v (k + 1) e) ∙ ap (λ (n : ℕ). order_of p v n e) (let n : k + 1 ≡ k + length {A = Entry} [] + 1 = omega arith in n)
orders-one p v k (x ∷ es) e =
    ap (λ l. order_of p v (k + 1) x ++ l) (orders-one p v (k + 1) es e ∙ ap (λ (n : ℕ). orders_of p v (k + 1) es ++ order_of p v n e) (let n : k + 1 + length es + 1 ≡ k + length (x ∷ es) + 1 = omega arith in n))
    ∙ sym (append_assoc (order_of p v (k + 1) x) (orders_of p v (k + 1) es) (order_of p v (k + length (x ∷ es) + 1) e))

pub one-ordered : (p : Address) (m : Coordinator) (e : Entry) → next_ordered m.window.stable m.orderer ≡ Some e
    → ordering m.window.stable m.orderer ≡ record { ordered = m.orderer.ordered + 1; queues = change_first has_next served m.orderer.queues }
one-ordered p m e due =
    cond-true (is_some (next_ordered m.window.stable m.orderer)) (record { ordered = m.orderer.ordered + 1; queues = change_first has_next served m.orderer.queues }) m.orderer (ap is_some due)

-- the ORDERs of a message are those of the view in which it is held
pub held-view : (p : Address) (group : List ℕ) (n : ℕ × Entry) (served new : Coordinator) (out more : Output) → new ≡ holding n served
    → Grows group out more (map (packet p (bodies.Order served.view.id n.0 n.1)) (others_of p served.view.members)) []
    → Grows group out more (map (packet p (bodies.Order new.view.id n.0 n.1)) (others_of p new.view.members)) []
held-view p group n served new out more now puts =
    subst (λ (z : Coordinator). Grows group out more (map (packet p (bodies.Order z.view.id n.0 n.1)) (others_of p z.view.members)) []) (sym now) puts

pub next-is : (k : ℕ) (o : Option Entry) (n : ℕ × Entry) → Some n ≡ option_map (λ e. (k, e)) o → (n ≡ (k, n.1)) × (o ≡ Some n.1)
next-is k None n e = absurd (none-some n (sym e))
next-is k (Some x) n e = let same : n ≡ (k, x) = same_Some n (k, x) e in (same ∙ ap (λ y. (k, y)) (ap (λ (z : ℕ × Entry). z.1) (sym same)), ap (λ (z : ℕ × Entry). Some z.1) (sym same))

pub next-none : (k : ℕ) (o : Option Entry) → ◌≡◌ {A = Option (ℕ × Entry)} None (option_map (λ e. (k, e)) o) → o ≡ None
next-none k None e = refl
next-none k (Some x) e = absurd (none-some (k, x) e)

module _ {S : Type 0} (meaning : Meaning S) where
  -- where there is none, and where it is held after it was delivered
  pub serves-none : (p : Address) (group : List ℕ) (next : Option (ℕ × Entry)) (m : Coordinator) (s : S) (out : Output) (new : Coordinator) (t : S) (more : Output) → next ≡ None
      → MatchOption next ((new ≡ m) × (t ≡ s) × (more ≡ out)) (λ n. ServesOne meaning (who p group) n (in_view m s out) (in_view new t more))
      → MatchOption next ((new ≡ m) × (t ≡ s) × (more ≡ out)) (λ n. OrdersOne meaning (who p group) n (in_view m s out) (in_view new t more))
  serves-none p group next m s out new t more none does =
      subst (λ (o : Option (ℕ × Entry)). MatchOption o ((new ≡ m) × (t ≡ s) × (more ≡ out)) (λ n. OrdersOne meaning (who p group) n (in_view m s out) (in_view new t more))) (sym none)
      (subst (λ (o : Option (ℕ × Entry)). MatchOption o ((new ≡ m) × (t ≡ s) × (more ≡ out)) (λ n. ServesOne meaning (who p group) n (in_view m s out) (in_view new t more))) none does)

  held-one : (p : Address) (group : List ℕ) (n : ℕ × Entry) (m : Coordinator) (s : S) (out : Output) (served new : Coordinator) (t : S) (more : Output) → ServesOne meaning (who p group) n (in_view m s out) (in_view served t more)
      → new ≡ holding n served → OrdersOne meaning (who p group) n (in_view m s out) (in_view new t more)
  held-one p group n m s out served new t more x now = record { now = now ∙ ap (holding n) x.now; state = x.state; grows = x.grows }

  pub serves-some : (p : Address) (group : List ℕ) (next : Option (ℕ × Entry)) (n : ℕ × Entry) (m : Coordinator) (s : S) (out : Output) (served new : Coordinator) (t : S) (more : Output) → next ≡ Some n
      → new ≡ holding n served → MatchOption next ((served ≡ m) × (t ≡ s) × (more ≡ out)) (λ n. ServesOne meaning (who p group) n (in_view m s out) (in_view served t more))
      → MatchOption next ((new ≡ m) × (t ≡ s) × (more ≡ out)) (λ n. OrdersOne meaning (who p group) n (in_view m s out) (in_view new t more))
  serves-some p group next n m s out served new t more some now does =
      subst (λ (o : Option (ℕ × Entry)). MatchOption o ((new ≡ m) × (t ≡ s) × (more ≡ out)) (λ n. OrdersOne meaning (who p group) n (in_view m s out) (in_view new t more))) (sym some)
      (held-one p group n m s out served new t more
      (subst (λ (o : Option (ℕ × Entry)). MatchOption o ((served ≡ m) × (t ≡ s) × (more ≡ out)) (λ n. ServesOne meaning (who p group) n (in_view m s out) (in_view served t more))) some does) now)

  pub turn-does : (p : Address) (group : List ℕ) (next : Option (ℕ × Entry)) (n : ℕ × Entry) (m : Coordinator) (s : S) (out : Output) (new : Coordinator) (t : S) (more most : Output)
      (reached : ℕ) (last : Coordinator) → MatchOption next ((new ≡ m) × (t ≡ s) × (more ≡ out)) (λ n. OrdersOne meaning (who p group) n (in_view m s out) (in_view new t more))
      → next ≡ option_map (λ e. (m.orderer.ordered + 1, e)) (next_ordered m.window.stable m.orderer) → next ≡ Some n
      → Grows group more most (map (packet p (bodies.Order new.view.id n.0 n.1)) (others_of p new.view.members)) [] → reached ≡ new.window.delivered → last ≡ acknowledged p reached new
      → TurnsNext meaning (who p group) true (in_view m s out) (in_view last t most)
  turn-does p group next n m s out new t more most reached last does is some puts same end =
      let k = m.orderer.ordered + 1 in
      let x : OrdersOne meaning (who p group) n (in_view m s out) (in_view new t more) =
      subst (λ (o : Option (ℕ × Entry)). MatchOption o ((new ≡ m) × (t ≡ s) × (more ≡ out)) (λ z. OrdersOne meaning (who p group) z (in_view m s out) (in_view new t more))) some does in
      let y = next-is k (next_ordered m.window.stable m.orderer) n (sym some ∙ is) in
      let z : OrdersOne meaning (who p group) (k, n.1) (in_view m s out) (in_view new t more) = subst (λ (z : ℕ × Entry). OrdersOne meaning (who p group) z (in_view m s out) (in_view new t more)) y.0 x in
      let e = n.1 in
      let next = after_one p (k, e) m in
      let announced : Grows group more most (order_of p m.view k e) [] =
      subst (λ (z : Coordinator). Grows group more most (order_of p z.view k e) []) z.now
      (subst (λ (z : ℕ × Entry). Grows group more most (map (packet p (bodies.Order new.view.id z.0 z.1)) (others_of p new.view.members)) []) y.0 puts) in
      subst (λ (o : Option Entry). MatchOption o ((true ≡ false) × (last ≡ m) × (t ≡ s) × (most ≡ out)) (λ e. (true ≡ true) × TurnsOne meaning (who p group) e (in_view m s out) (in_view last t most))) (sym y.1) (
        refl,
        record {
          now = end ∙ ap (λ (j : ℕ). acknowledged p j new) same ∙ ap (λ (z : Coordinator). acknowledged p z.window.delivered z) z.now;
          state = z.state;
          grows = grows-then group out more most [] (order_of p m.view k e) (delivery p m.view.id e ∷ []) [] z.grows announced;
        },
      )

  pub rest-does : (p : Address) (group : List ℕ) (next : Option (ℕ × Entry)) (m : Coordinator) (s : S) (out : Output) (new : Coordinator) (t : S) (more : Output)
      → MatchOption next ((new ≡ m) × (t ≡ s) × (more ≡ out)) (λ n. OrdersOne meaning (who p group) n (in_view m s out) (in_view new t more))
      → next ≡ option_map (λ e. (m.orderer.ordered + 1, e)) (next_ordered m.window.stable m.orderer) → next ≡ None
      → TurnsNext meaning (who p group) false (in_view m s out) (in_view new t more)
  rest-does p group next m s out new t more does is none =
      let x = subst (λ (o : Option (ℕ × Entry)). MatchOption o ((new ≡ m) × (t ≡ s) × (more ≡ out)) (λ z. OrdersOne meaning (who p group) z (in_view m s out) (in_view new t more))) none does in
      subst (λ (o : Option Entry). MatchOption o ((false ≡ false) × (new ≡ m) × (t ≡ s) × (more ≡ out)) (λ e. (false ≡ true) × TurnsOne meaning (who p group) e (in_view m s out) (in_view new t more)))
      (sym (next-none (m.orderer.ordered + 1) (next_ordered m.window.stable m.orderer) (sym none ∙ is))) (refl, x.0, x.1, x.2)

  pub ordering-nothing : (who : Who) (a : InView Coordinator S) → Ordering meaning who a a
  ordering-nothing who a = record {
    entries = [];
    turns = Starts a.part;
    state = refl;
    grows = grows-nothing who.group a.out;
    view = refl;
    ordered = omega arith;
    heard = λ q other. refl;
  }

  one-more : (w : Who) (a b c : InView Coordinator S) (e : Entry) → Ordering meaning w a b → next_ordered b.part.window.stable b.part.orderer ≡ Some e → TurnsOne meaning w e b c → Ordering meaning w a c
  one-more w a b c e x due y =
      let first = a.part in
      let now = b.part in
      let p = w.address in
      let moved : c.part.orderer ≡ record { ordered = now.orderer.ordered + 1; queues = change_first has_next served now.orderer.queues } = ap (λ (n : Coordinator). n.orderer) y.now ∙ one-ordered p now e due in
      let place : now.orderer.ordered + 1 ≡ first.orderer.ordered + length x.entries + 1 = omega (arith, x.ordered) in
      record {
        entries = x.entries ++ e ∷ [];
        turns = subst (λ (n : Coordinator). TurnsTo p first (x.entries ++ e ∷ []) n) (sym y.now) (Turns first now x.entries e x.turns due);
        state = y.state ∙ ap (λ (z : S). meaning.apply z e.sender e.payload) x.state ∙ sym (fold-append (λ z f. meaning.apply z f.sender f.payload) a.state x.entries (e ∷ []));
        grows = subst (λ (l : List Posted). Grows w.group a.out c.out l (map (delivery p first.view.id) (x.entries ++ e ∷ []))) (sym (orders-one p first.view first.orderer.ordered x.entries e))
            (subst (λ l. Grows w.group a.out c.out (orders_of p first.view first.orderer.ordered x.entries ++ order_of p first.view (first.orderer.ordered + length x.entries + 1) e) l)
            (sym (map-append (delivery p first.view.id) x.entries (e ∷ [])))
            (grows-then w.group a.out b.out c.out _ _ _ _ x.grows
            (subst (λ (v : View). Grows w.group b.out c.out (order_of p v (first.orderer.ordered + length x.entries + 1) e) (delivery p v.id e ∷ [])) x.view
            (subst (λ (k : ℕ). Grows w.group b.out c.out (order_of p now.view k e) (delivery p now.view.id e ∷ [])) place y.grows))));
        view = ap (λ (n : Coordinator). n.view) y.now ∙ x.view;
        ordered = ap (λ (o : OrdererModel). o.ordered) moved ∙ place ∙ (let z : first.orderer.ordered + length x.entries + 1 ≡ first.orderer.ordered + length (x.entries ++ e ∷ []) = simp length-append (omega arith) in z);
        heard = λ q other. ap (λ (n : Coordinator). count_of q n.acks) y.now ∙ noted-other q p _ now.acks other ∙ x.heard q other;
      }

  next-by : (o : Option Entry) (w : Who) (more : Bool) (a b c : InView Coordinator S) → Ordering meaning w a b → next_ordered b.part.window.stable b.part.orderer ≡ o
      → MatchOption o ((more ≡ false) × (c.part ≡ b.part) × (c.state ≡ b.state) × (c.out ≡ b.out)) (λ e. (more ≡ true) × TurnsOne meaning w e b c) → Ordering meaning w a c
  next-by None w more a b c x due y =
      subst (λ (n : Coordinator). Ordering meaning w a (in_view n c.state c.out)) (sym y.1) (subst (λ (z : S). Ordering meaning w a (in_view b.part z c.out)) (sym y.2)
      (subst (λ (o : Output). Ordering meaning w a (in_view b.part b.state o)) (sym y.3) x))
  next-by (Some e) w more a b c x due y = one-more w a b c e x due y.1

  pub ordering-then : (w : Who) (more : Bool) (a b c : InView Coordinator S) → Ordering meaning w a b → TurnsNext meaning w more b c → Ordering meaning w a c
  ordering-then w more a b c x y = next-by (next_ordered b.part.window.stable b.part.orderer) w more a b c x refl y
