-- the coordinator of a view goes on by acts.
use Rattle.std.proofs.Common.{◌≡◌, ℕ, ◌+◌, ◌<◌, ◌≤◌, Bool, true, false, cond, Option, Some, None, List, [], ◌∷◌, map, length, refl, sym, ap, ◌∙◌, subst, arith, is_some, nat_eq}
use Rattle.std.specs.Prelude.{MatchBool, MatchOption}
use Rattle.std.specs.Option.{option_map}
use Rattle.std.specs.List.{Contains}
use Rattle.std.proofs.lemmas.Bool.Decides.{nat_tests}
use Rattle.std.proofs.lemmas.Bool.{cond-true}
use Rattle.address.specs.Ids.{Address, same_address}
use Rattle.view.specs.Members.{View, stands_in, is_distinct}
use Rattle.view.specs.View.{view_refusal}
use Rattle.wire_values.specs.Values.{Entry, held_at}
use Rattle.wire_values.specs.declared.packet.Body.TheVariants as bodies
use Rattle.wire_values.specs.Posted.{Posted, packet}
use Rattle.state_transfer.specs.Meanings.{Meaning}
use Rattle.address.proofs.SameIds.{same_address-refl, same_address-true}
use Rattle.nak_stream.specs.Windows.{WindowModel, IsWindow, taken, delivering}
use Rattle.nak_stream.proofs.Windows.{held_at-with}
use Rattle.sequencer.specs.Queues.{next_ordered, has_next, served, change_first, OrdererModel}
use Rattle.law_acts.specs.Acts.{delivery, others_of}
use Rattle.view.proofs.MembersListed.{coordinator-in}
use Rattle.traffic.specs.declared.coordinator.Coordinator.{Coordinator}
use Rattle.step_output.specs.declared.output.Output.{Output}
use Rattle.step_output.specs.Outputs.{Grows}
use Rattle.traffic.specs.ViewStates.{coordinator_core, waiting_of, senders_of}
use Rattle.traffic.specs.Coordinators.{IsCoordinator, OrdersOne, queued, after_one, acknowledged}
use Rattle.traffic.specs.Goings.{open_core, CoordinatorGoes}
use Rattle.traffic.proofs.QueuesServe.{served-fact}
use Rattle.traffic.proofs.OffersToOrder.{is_wanted, offered-fact, unwanted-fact}
use Rattle.traffic.proofs.Windows.{next-taken}
use Rattle.traffic.proofs.ActsOfCoordinator.{Due, due-fact, distinct-in, orders-acts, queues-by, hears-by, puts-acts, one-coordinator, heard-coordinator}
use Rattle.step_output.proofs.GrowthAdds.{grows-nothing}
use Rattle.traffic.proofs.ActsInTurn.{goes-nothing, goes-then}
use Rattle.traffic.proofs.TurnsFollow.{next-is, next-none}
use Rattle.step_output.specs.Steps.{who}
use Rattle.traffic.specs.InViews.{in_view}

-- this member stands in its view
pub itself-in : (p : Address) (v : View) → view_refusal v.id v.members ≡ None → same_address p v.id.creator ≡ true → stands_in p v.members ≡ true
itself-in p v sound first = ap (λ (q : Address). stands_in q v.members) (same_address-true p v.id.creator first) ∙ coordinator-in v.id v.members sound

-- fewer wait afterwards
pub one-shorter : (p : Address) (m : Coordinator) (e : Entry) → IsCoordinator p m → is_distinct m.view.members ≡ true → Due m e
    → length (waiting_of (after_one p (m.orderer.ordered + 1, e) m).orderer.queues) < length (waiting_of m.orderer.queues)
one-shorter p m e i distinct d =
    let x = served-fact m.orderer.queues e (ap is_distinct i.senders ∙ distinct) d.next in
    let later = change_first has_next served m.orderer.queues in
    subst (λ (o : OrdererModel). length (waiting_of o.queues) < length (waiting_of m.orderer.queues))
    (sym (cond-true (is_some (next_ordered m.window.stable m.orderer)) (record { ordered = m.orderer.ordered + 1; queues = later }) m.orderer (ap is_some d.due))) x.shorter

-- what was ordered is held
one-held : (m : Coordinator) (e : Entry) (p : Address) → IsCoordinator p m → Due m e
    → held_at (m.orderer.ordered + 1) (after_one p (m.orderer.ordered + 1, e) m).window.held ≡ Some e
one-held m e p i d =
    let g = m.window.delivered + 1 in
    let itself : nat_eq g g ≡ true = grind (arith, nat_tests) in
    let window = ap (λ (n : ℕ). delivering (taken (n + 1) e m.window)) i.ordered ∙ next-taken m.window e d.room d.small (i.top g (omega arith)) in
    ap (λ (n : ℕ). held_at (n + 1) (after_one p (m.orderer.ordered + 1, e) m).window.held) i.ordered
    ∙ ap (λ (w : WindowModel). held_at g w.held) window
    ∙ held_at-with g g e m.window.held ∙ ap (λ (b : Bool). cond b (Some e) (held_at g m.window.held)) itself

module _ {S : Type 0} (meaning : Meaning S) where
  queued-coordinator : (b : Bool) (p : Address) (m : Coordinator) (q : Address) (n : ℕ) (x : List ℕ) → is_wanted q n m.orderer.queues ≡ b → IsCoordinator p m → IsCoordinator p (queued q n x m)
  queued-coordinator true p m q n x w i = record { coordinator = i.coordinator; heard = i.heard; senders = (offered-fact q n x m.orderer.queues w).senders ∙ i.senders; ordered = i.ordered; top = i.top }
  queued-coordinator false p m q n x w i = record { coordinator = i.coordinator; heard = i.heard; senders = ap senders_of (unwanted-fact q n x m.orderer.queues w) ∙ i.senders; ordered = i.ordered; top = i.top }

  pub queue-goes : (came : Option Posted) (p : Address) (group : List ℕ) (m : Coordinator) (s : S) (out : Output) (q : Address) (n : ℕ) (x : List ℕ) → IsCoordinator p m
      → MatchBool (same_address q p) (Contains m.forwards.rest (record { number = n; payload = x })) (came ≡ Some (packet q (bodies.Forward m.view.id n x) p))
      → CoordinatorGoes meaning came (who p group) (in_view m s out) (in_view (queued q n x m) s out)
  queue-goes came p group m s out q n x i from = record {
    goes = record {
      posted = [];
      happened = [];
      acted = λ kept. queues-by meaning (is_wanted q n m.orderer.queues) came p kept m s q n x refl i from;
      grows = grows-nothing group out;
    };
    view = refl;
    coordinator = queued-coordinator (is_wanted q n m.orderer.queues) p m q n x refl i;
  }

  pub hear-goes : (came : Option Posted) (p : Address) (group : List ℕ) (m : Coordinator) (s : S) (out : Output) (q : Address) (n : ℕ) → IsCoordinator p m → stands_in q m.view.members ≡ true
      → MatchBool (same_address q p) (n ≤ m.window.delivered) (came ≡ Some (packet q (bodies.Ack m.view.id n) p))
      → CoordinatorGoes meaning came (who p group) (in_view m s out) (in_view (acknowledged q n m) s out)
  hear-goes came p group m s out q n i there acked_so = record {
    goes = record {
      posted = [];
      happened = [];
      acted = λ kept. hears-by meaning _ came p kept m s q n (ap (stands_in q) i.heard ∙ there) refl i acked_so;
      grows = grows-nothing group out;
    };
    view = refl;
    coordinator = heard-coordinator meaning p m q n i;
  }

  pub one-goes : (came : Option Posted) (p : Address) (group : List ℕ) (m : Coordinator) (s : S) (out : Output) (e : Entry) (new : Coordinator) (t : S) (more most : Output) → IsCoordinator p m → IsWindow m.window
      → view_refusal m.view.id m.view.members ≡ None → next_ordered m.window.stable m.orderer ≡ Some e
      → OrdersOne meaning (who p group) (m.orderer.ordered + 1, e) (in_view m s out) (in_view new t more)
      → Grows group more most (map (packet p (bodies.Order new.view.id (m.orderer.ordered + 1) e)) (others_of p new.view.members)) []
      → CoordinatorGoes meaning came (who p group) (in_view m s out) (in_view (acknowledged p new.window.delivered new) t most)
  one-goes came p group m s out e new t more most i w sound due x puts =
      let d = due-fact m e i.ordered w.counts due in
      let distinct = distinct-in m.view sound in
      let g = m.orderer.ordered + 1 in
      let next = after_one p (g, e) m in
      let body = bodies.Order m.view.id g e in
      let list = others_of p m.view.members in
      let coordinator = one-coordinator meaning p m e i distinct d in
      let one : CoordinatorGoes meaning came (who p group) (in_view m s out) (in_view next (meaning.apply s e.sender e.payload) more) = record {
        goes = record {
          posted = [];
          happened = delivery p m.view.id e ∷ [];
          acted = λ kept. orders-acts meaning came p kept m s e i w distinct d;
          grows = x.grows;
        };
        view = refl;
        coordinator = coordinator;
      } in
      let announced : Grows group more most (map (packet p body) list) [] =
      subst (λ (n : Coordinator). Grows group more most (map (packet p (bodies.Order n.view.id g e)) (others_of p n.view.members)) []) x.now puts in
      let two : CoordinatorGoes meaning came (who p group) (in_view next (meaning.apply s e.sender e.payload) more) (in_view next (meaning.apply s e.sender e.payload) most) = record {
        goes = record {
          posted = map (packet p body) list;
          happened = [];
          acted = λ kept. puts-acts meaning came (open_core p m.view kept (coordinator_core next) (meaning.apply s e.sender e.payload)) body list
              (λ q. (refl, i.coordinator, one-held m e p i d));
          grows = announced;
        };
        view = refl;
        coordinator = coordinator;
      } in
      let three = hear-goes came p group next (meaning.apply s e.sender e.payload) most p next.window.delivered coordinator (itself-in p m.view sound i.coordinator)
      (rw (same_address-refl p) (omega arith)) in
      let all = goes-then meaning came (who p group) (in_view m s out) (in_view next (meaning.apply s e.sender e.payload) most) (in_view (acknowledged p next.window.delivered next) (meaning.apply s e.sender e.payload) most)
      (goes-then meaning came (who p group) (in_view m s out) (in_view next (meaning.apply s e.sender e.payload) more) (in_view next (meaning.apply s e.sender e.payload) most) one two) three in
      subst (λ (n : Coordinator). CoordinatorGoes meaning came (who p group) (in_view m s out) (in_view (acknowledged p n.window.delivered n) t most)) (sym x.now)
      (subst (λ (z : S). CoordinatorGoes meaning came (who p group) (in_view m s out) (in_view (acknowledged p next.window.delivered next) z most)) (sym x.state) all)

  -- ---- one turn, as the code has it

  abbrev pub Does : Address → List ℕ → Option (ℕ × Entry) → Coordinator → S → Output → Coordinator → S → Output → Type 0
  Does p group next m s out new t more = MatchOption next ((new ≡ m) × (t ≡ s) × (more ≡ out)) (λ n. OrdersOne meaning (who p group) n (in_view m s out) (in_view new t more))

  abbrev pub IsNext : Coordinator → Option (ℕ × Entry) → Type 0
  IsNext m next = next ≡ option_map (λ e. (m.orderer.ordered + 1, e)) (next_ordered m.window.stable m.orderer)

  pub rest-goes : (came : Option Posted) (p : Address) (group : List ℕ) (next : Option (ℕ × Entry)) (m : Coordinator) (s : S) (out : Output) (new : Coordinator) (t : S) (more : Output) → IsCoordinator p m
      → next ≡ None → Does p group next m s out new t more → CoordinatorGoes meaning came (who p group) (in_view m s out) (in_view new t more)
  rest-goes came p group next m s out new t more i none does =
      let x = subst (λ (o : Option (ℕ × Entry)). Does p group o m s out new t more) none does in
      subst (λ (n : Coordinator). CoordinatorGoes meaning came (who p group) (in_view m s out) (in_view n t more)) (sym x.0)
      (subst (λ (z : S). CoordinatorGoes meaning came (who p group) (in_view m s out) (in_view m z more)) (sym x.1)
      (subst (λ (o : Output). CoordinatorGoes meaning came (who p group) (in_view m s out) (in_view m s o)) (sym x.2) (goes-nothing meaning came (who p group) (in_view m s out) i)))

  pub rest-done : (p : Address) (group : List ℕ) (next : Option (ℕ × Entry)) (m : Coordinator) (s : S) (out : Output) (new : Coordinator) (t : S) (more : Output) → IsNext m next → next ≡ None
      → Does p group next m s out new t more → next_ordered new.window.stable new.orderer ≡ None
  rest-done p group next m s out new t more is none does =
      let x = subst (λ (o : Option (ℕ × Entry)). Does p group o m s out new t more) none does in
      ap (λ (n : Coordinator). next_ordered n.window.stable n.orderer) x.0 ∙ next-none (m.orderer.ordered + 1) (next_ordered m.window.stable m.orderer) (sym none ∙ is)

  pub turn-goes : (came : Option Posted) (p : Address) (group : List ℕ) (next : Option (ℕ × Entry)) (n : ℕ × Entry) (m : Coordinator) (s : S) (out : Output) (new : Coordinator) (t : S) (more most : Output)
      (reached : ℕ) (last : Coordinator) → IsCoordinator p m → IsWindow m.window → view_refusal m.view.id m.view.members ≡ None → IsNext m next → next ≡ Some n → Does p group next m s out new t more
      → Grows group more most (map (packet p (bodies.Order new.view.id n.0 n.1)) (others_of p new.view.members)) [] → reached ≡ new.window.delivered → last ≡ acknowledged p reached new
      → CoordinatorGoes meaning came (who p group) (in_view m s out) (in_view last t most)
  turn-goes came p group next n m s out new t more most reached last i w sound is some does puts same end =
      let k = m.orderer.ordered + 1 in
      let x : OrdersOne meaning (who p group) n (in_view m s out) (in_view new t more) = subst (λ (o : Option (ℕ × Entry)). Does p group o m s out new t more) some does in
      let y = next-is k (next_ordered m.window.stable m.orderer) n (sym some ∙ is) in
      let goes = one-goes came p group m s out n.1 new t more most i w sound y.1 (subst (λ (z : ℕ × Entry). OrdersOne meaning (who p group) z (in_view m s out) (in_view new t more)) y.0 x)
      (subst (λ (z : ℕ × Entry). Grows group more most (map (packet p (bodies.Order new.view.id z.0 z.1)) (others_of p new.view.members)) []) y.0 puts) in
      subst (λ (z : Coordinator). CoordinatorGoes meaning came (who p group) (in_view m s out) (in_view z t most)) (sym (end ∙ ap (λ (z : ℕ). acknowledged p z new) same)) goes

  pub turn-fewer : (p : Address) (group : List ℕ) (next : Option (ℕ × Entry)) (n : ℕ × Entry) (m : Coordinator) (s : S) (out : Output) (new : Coordinator) (t : S) (more : Output) (reached : ℕ) (last : Coordinator)
      → IsCoordinator p m → IsWindow m.window → view_refusal m.view.id m.view.members ≡ None → IsNext m next → next ≡ Some n → Does p group next m s out new t more → last ≡ acknowledged p reached new
      → length (waiting_of last.orderer.queues) < length (waiting_of m.orderer.queues)
  turn-fewer p group next n m s out new t more reached last i w sound is some does end =
      let k = m.orderer.ordered + 1 in
      let x : OrdersOne meaning (who p group) n (in_view m s out) (in_view new t more) = subst (λ (o : Option (ℕ × Entry)). Does p group o m s out new t more) some does in
      let y = next-is k (next_ordered m.window.stable m.orderer) n (sym some ∙ is) in
      let less = one-shorter p m n.1 i (distinct-in m.view sound) (due-fact m n.1 i.ordered w.counts y.1) in
      subst (λ (z : Coordinator). length (waiting_of z.orderer.queues) < length (waiting_of m.orderer.queues)) (sym (end ∙ ap (acknowledged p reached) x.now)) less

  -- ---- what came from another

  pub forward-goes : (p : Address) (group : List ℕ) (m : Coordinator) (s : S) (out : Output) (q : Address) (n : ℕ) (x : List ℕ) (new : Coordinator) → IsCoordinator p m → same_address q p ≡ false → new ≡ queued q n x m
      → CoordinatorGoes meaning (Some (packet q (bodies.Forward m.view.id n x) p)) (who p group) (in_view m s out) (in_view new s out)
  forward-goes p group m s out q n x new i other now =
      subst (λ (z : Coordinator). CoordinatorGoes meaning (Some (packet q (bodies.Forward m.view.id n x) p)) (who p group) (in_view m s out) (in_view z s out)) (sym now)
      (queue-goes (Some (packet q (bodies.Forward m.view.id n x) p)) p group m s out q n x i (rw other refl))

  pub ack-goes : (p : Address) (group : List ℕ) (m : Coordinator) (s : S) (out : Output) (q : Address) (n : ℕ) (new : Coordinator) → IsCoordinator p m → same_address q p ≡ false
      → stands_in q m.view.members ≡ true → new ≡ acknowledged q n m → CoordinatorGoes meaning (Some (packet q (bodies.Ack m.view.id n) p)) (who p group) (in_view m s out) (in_view new s out)
  ack-goes p group m s out q n new i other there now =
      subst (λ (z : Coordinator). CoordinatorGoes meaning (Some (packet q (bodies.Ack m.view.id n) p)) (who p group) (in_view m s out) (in_view z s out)) (sym now)
      (hear-goes (Some (packet q (bodies.Ack m.view.id n) p)) p group m s out q n i there (rw other refl))
