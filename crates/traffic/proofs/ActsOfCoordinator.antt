-- What the coordinator of a view does is acts.
use Rattle.std.proofs.Common.{◌≡◌, ℕ, ◌+◌, ◌<◌, ◌≤◌, Bool, true, false, cond, not, max, min, Option, Some, None, List, [], ◌∷◌, map, drop, length, refl, sym, ap, ◌∙◌, subst, arith, is_some}
use Rattle.std.specs.Prelude.{if◌then◌else◌, nat_lt, nat_eq, MatchBool}
use Rattle.std.specs.List.{Contains, cons_option}
use Rattle.std.proofs.lemmas.Bool.Decides.{nat_tests}
use Rattle.std.proofs.lemmas.Bool.{cond-true, cond-false}
use Rattle.std.proofs.lemmas.Option.{none-some}
use Rattle.std.proofs.Math.Nat.{max-eq_right}
use Rattle.address.specs.declared.limits.TheConstants.{MEMBERS, WINDOW, GREATEST_NUMBER}
use mathlib.Core.Path.{fun_ext}
use Rattle.address.specs.Ids.{Address, same_address}
use Rattle.view.specs.Members.{View, stands_in, is_distinct}
use Rattle.view.specs.View.{view_refusal, begins_with}
use Rattle.view.specs.declared.ViewError.TheVariants.{Empty, TooMany, Repeated, NotFirst}
use Rattle.wire_values.specs.Values.{Entry, held_at}
use Rattle.wire_values.specs.declared.packet.Body.{Body}
use Rattle.wire_values.specs.declared.packet.Body.TheVariants as bodies
use Rattle.wire_values.specs.Posted.{Posted, packet}
use Rattle.state_transfer.specs.Meanings.{Meaning}
use Rattle.trace_props.specs.declared.event.Event.{Event}
use Rattle.trace_props.specs.declared.event.Numbered.{Numbered}
use Rattle.nak_stream.specs.Windows.{WindowModel, IsWindow, held_with, held_above, taken, delivering}
use Rattle.nak_stream.proofs.Windows.{held_at-with, held_at-above}
use Rattle.sequencer.specs.Forwards.{ForwardsModel, one_delivered}
use Rattle.sequencer.specs.Queues.{Queue, OrdererModel, change_first, has_next, served, first_next, may_order, next_ordered, ordering, is_from, offered}
use Rattle.stability.specs.Counts.{members_of, count_of, noted, stable_count}
use Rattle.stability.proofs.Counts.{members-noted, stable-le-count}
use Rattle.law_acts.specs.Cores.{ViewCore, Core, left_of}
use Rattle.law_acts.specs.Acts.{HoldsAbove, Describes, Queues, Orders, TakesAck, Collects, Puts, All, delivery, one_more}
use Rattle.law_acts.specs.Chains.{Acted}
use Rattle.law_acts.proofs.LawsOfActs.{nothing-acted}
use Rattle.traffic.specs.declared.coordinator.Coordinator.{Coordinator}
use Rattle.traffic.specs.ViewStates.{waiting_of, ordered_of, senders_of, coordinator_core, after_delivery}
use Rattle.traffic.specs.Coordinators.{IsCoordinator, queued, after_one, acknowledged}
use Rattle.traffic.specs.Goings.{Beside, open_core}
use Rattle.traffic.proofs.QueuesServe.{served-fact}
use Rattle.traffic.proofs.OffersToOrder.{offered-fact, unwanted-fact, is_wanted, entry_from}
use Rattle.traffic.proofs.Windows.{holds-more, holds-above, next-taken}
use Rattle.traffic.proofs.AcksKnown.{noted-heard}

-- ---- what a view is

distinct-by : (a b c d : Bool) → (if a then Some Empty else if b then Some TooMany else if not c then Some Repeated else if not d then Some NotFirst else None) ≡ None → c ≡ true
distinct-by true b c d e = absurd (none-some Empty (sym e))
distinct-by false true c d e = absurd (none-some TooMany (sym e))
distinct-by false false true d e = refl
distinct-by false false false d e = absurd (none-some Repeated (sym e))

pub distinct-in : (v : View) → view_refusal v.id v.members ≡ None → is_distinct v.members ≡ true
distinct-in v e = distinct-by (nat_eq (length v.members) 0) (nat_lt MEMBERS (length v.members)) (is_distinct v.members) (begins_with v.id.creator v.members) e

-- ---- one act

abbrev pub view_core_at : WindowModel → ForwardsModel → (Address → ℕ) → (Address → ℕ) → List Entry → ViewCore
view_core_at w f acks ordered waiting = record {
  stable = w.stable;
  delivered = w.delivered;
  sent = f.sent;
  held = w.held;
  outstanding = f.rest;
  acks = acks;
  ordered = ordered;
  waiting = waiting;
}

pub delivered-by : (b : Bool) (n : Numbered) (f : ForwardsModel) → (if b then one_delivered f else f) ≡ record { sent = f.sent; rest = drop (length (cons_option (if b then Some n else None) [])) f.rest }
delivered-by true n f = refl
delivered-by false n f = refl

-- why the next message may be ordered
pub record Due (m : Coordinator) (e : Entry) : Type 0 where
  pub room : m.window.delivered < m.window.stable + WINDOW
  pub small : m.window.delivered < GREATEST_NUMBER
  pub next : first_next m.orderer.queues ≡ Some e
  pub due : next_ordered m.window.stable m.orderer ≡ Some e

pub due-by : (b : Bool) (m : Coordinator) (e : Entry) → may_order m.window.stable m.orderer ≡ b → m.orderer.ordered ≡ m.window.delivered → m.window.stable ≤ m.window.delivered
    → (if b then first_next m.orderer.queues else None) ≡ Some e → next_ordered m.window.stable m.orderer ≡ Some e → Due m e
due-by true m e t same low h due =
    record { room = grind (arith, nat_tests); small = grind (arith, nat_tests); next = h; due = due }
due-by false m e t same low h due = absurd (none-some e h)

pub due-fact : (m : Coordinator) (e : Entry) → m.orderer.ordered ≡ m.window.delivered → m.window.stable ≤ m.window.delivered → next_ordered m.window.stable m.orderer ≡ Some e → Due m e
due-fact m e same low h = due-by (may_order m.window.stable m.orderer) m e refl same low h h

module _ {S : Type 0} (meaning : Meaning S) where
  abbrev pub GoesOn : Option Posted → Address → View → Beside → ViewCore → S → List Posted → List Event → ViewCore → S → Type 0
  GoesOn came p v kept t s posted happened u z = Acted meaning came (Some (open_core p v kept t s)) posted happened (Some (open_core p v kept u z))

  -- ---- Orders

  pub orders-acts : (came : Option Posted) (p : Address) (kept : Beside) (m : Coordinator) (s : S) (e : Entry) → IsCoordinator p m → IsWindow m.window
      → is_distinct m.view.members ≡ true → Due m e
      → GoesOn came p m.view kept (coordinator_core m) s [] (delivery p m.view.id e ∷ []) (coordinator_core (after_one p (m.orderer.ordered + 1, e) m)) (meaning.apply s e.sender e.payload)
  orders-acts came p kept m s e i w distinct d =
      let queues = m.orderer.queues in
      let later = change_first has_next served queues in
      let x = served-fact queues e (ap is_distinct i.senders ∙ distinct) d.next in
      let free = i.top (m.window.delivered + 1) (omega arith) in
      let g = m.window.delivered + 1 in
      let held = held_with g e m.window.held in
      let moved : WindowModel = record { stable = m.window.stable; delivered = g; held = held } in
      let own : Numbered = record { number = e.number; payload = e.payload } in
      let left : ForwardsModel = record { sent = m.forwards.sent; rest = left_of p (e ∷ []) m.forwards.rest } in
      let acks : Address → ℕ = λ q. count_of q m.acks in
      let window : moved ≡ delivering (taken (m.orderer.ordered + 1) e m.window) =
      sym (ap (λ (n : ℕ). delivering (taken (n + 1) e m.window)) i.ordered ∙ next-taken m.window e d.room d.small free) in
      let forwards : left ≡ after_delivery p e m.forwards = sym (delivered-by (same_address e.sender p) own m.forwards) in
      let counts : one_more e.sender (ordered_of queues) ≡ ordered_of later = fun_ext (λ q. sym (x.counts q)) in
      let orderer : record { ordered = m.orderer.ordered + 1; queues = later } ≡ ordering m.window.stable m.orderer =
      sym (cond-true (is_some (next_ordered m.window.stable m.orderer)) (record { ordered = m.orderer.ordered + 1; queues = later }) m.orderer (ap is_some d.due)) in
      record {
        acts = Orders m.view e (waiting_of later) held ∷ [];
        chain = (
          record {
            open_in = record { view = refl; installed = refl };
            first = i.coordinator;
            waits = x.waits;
            next = x.next;
            room = d.room;
            fewer = x.fewer.each;
            more = holds-more g e m.window.held free;
          },
          ap (λ (w : WindowModel). Some (open_core p m.view kept (view_core_at w left acks (one_more e.sender (ordered_of queues)) (waiting_of later)) (meaning.apply s e.sender e.payload))) window
              ∙ ap (λ (f : ForwardsModel). Some (open_core p m.view kept (view_core_at (delivering (taken (m.orderer.ordered + 1) e m.window)) f acks (one_more e.sender (ordered_of queues)) (waiting_of later)) (meaning.apply s e.sender e.payload))) forwards
              ∙ ap (λ (c : Address → ℕ). Some (open_core p m.view kept (view_core_at (delivering (taken (m.orderer.ordered + 1) e m.window)) (after_delivery p e m.forwards) acks c (waiting_of later)) (meaning.apply s e.sender e.payload))) counts
              ∙ ap (λ (o : OrdererModel). Some (open_core p m.view kept (view_core_at (delivering (taken (m.orderer.ordered + 1) e m.window)) (after_delivery p e m.forwards) acks (ordered_of o.queues) (waiting_of o.queues)) (meaning.apply s e.sender e.payload))) orderer,
        );
        puts = refl;
        happens = refl;
      }

  -- ---- Queues

  -- where it is from: an own one that is outstanding, or a FORWARD
  abbrev pub IsFrom : Option Posted → Address → Coordinator → Address → ℕ → List ℕ → Type 0
  IsFrom came p m q n x = MatchBool (same_address q p) (Contains m.forwards.rest (record { number = n; payload = x })) (came ≡ Some (packet q (bodies.Forward m.view.id n x) p))

  pub queues-by : (b : Bool) (came : Option Posted) (p : Address) (kept : Beside) (m : Coordinator) (s : S) (q : Address) (n : ℕ) (x : List ℕ) → is_wanted q n m.orderer.queues ≡ b
      → IsCoordinator p m → IsFrom came p m q n x → GoesOn came p m.view kept (coordinator_core m) s [] [] (coordinator_core (queued q n x m)) s
  queues-by true came p kept m s q n x wanted i from =
      let queues = m.orderer.queues in
      let later = change_first (is_from q) (offered n x) queues in
      let y = offered-fact q n x queues wanted in
      record {
        acts = Queues m.view (entry_from q n x) (waiting_of later) ∷ [];
        chain = (
          record {
            open_in = record { view = refl; installed = refl };
            first = i.coordinator;
            member = ap (stands_in q) (sym i.senders) ∙ y.stands;
            new = y.new;
            sent = from;
            fewer = y.fewer.each;
          },
          ap (λ (c : Address → ℕ). Some (open_core p m.view kept (view_core_at m.window m.forwards (λ r. count_of r m.acks) c (waiting_of later)) s)) (fun_ext (λ r. sym (y.counts r))),
        );
        puts = refl;
        happens = refl;
      }
  queues-by false came p kept m s q n x wanted i from =
      record {
        acts = [];
        chain = ap (λ (queues : List Queue). Some (open_core p m.view kept (view_core_at m.window m.forwards (λ r. count_of r m.acks) (ordered_of queues) (waiting_of queues)) s))
            (sym (unwanted-fact q n x m.orderer.queues wanted));
        puts = refl;
        happens = refl;
      }

  -- ---- Hears and Collects

  abbrev pub IsAcked : Option Posted → Address → Coordinator → Address → ℕ → Type 0
  IsAcked came p m q n = MatchBool (same_address q p) (n ≤ m.window.delivered) (came ≡ Some (packet q (bodies.Ack m.view.id n) p))

  pub hears-by : (b : Bool) (came : Option Posted) (p : Address) (kept : Beside) (m : Coordinator) (s : S) (q : Address) (n : ℕ) (listed : stands_in q (members_of m.acks) ≡ true)
      → nat_lt m.window.stable (min (stable_count (noted q n m.acks)) m.window.delivered) ≡ b
      → IsCoordinator p m → IsAcked came p m q n → GoesOn came p m.view kept (coordinator_core m) s [] [] (coordinator_core (acknowledged q n m)) s
  hears-by true came p kept m s q n listed more i acked =
      let acks = noted q n m.acks in
      let t = min (stable_count acks) m.window.delivered in
      let over : m.window.stable ≤ t = grind (arith, nat_tests) in
      let next : WindowModel = record { stable = t; delivered = m.window.delivered; held = held_above t m.window.held } in
      let top : max m.window.stable t ≡ t = max-eq_right over in
      let counts = noted-heard q n m.acks listed in
      record {
        acts = TakesAck m.view q n ∷ Collects m.view t (held_above t m.window.held) ∷ [];
        chain = (
          record { open_in = record { view = refl; installed = refl }; first = i.coordinator; member = ap (stands_in q) (sym i.heard) ∙ listed; acked = acked },
          (
            record {
              open_in = record { view = refl; installed = refl };
              reached = omega arith;
              stable = All i.coordinator (λ r there. subst (λ (a : Address → ℕ). t ≤ a r) counts
                  (let c : stable_count acks ≤ count_of r acks = stable-le-count r acks (ap (stands_in r) (members-noted q n m.acks ∙ i.heard) ∙ there) in omega arith));
              fewer = subst (λ (k : ℕ). HoldsAbove m.window.held k (held_above t m.window.held)) (sym top) (holds-above t m.window.held);
            },
            ap (λ (a : Address → ℕ). Some (open_core p m.view kept (view_core_at (record next { stable = max m.window.stable t }) m.forwards a (ordered_of m.orderer.queues) (waiting_of m.orderer.queues)) s)) (sym counts)
                ∙ ap (λ (k : ℕ). Some (open_core p m.view kept (view_core_at (record next { stable = k }) m.forwards (λ r. count_of r acks) (ordered_of m.orderer.queues) (waiting_of m.orderer.queues)) s)) top
                ∙ ap (λ (w : WindowModel). Some (open_core p m.view kept (view_core_at w m.forwards (λ r. count_of r acks) (ordered_of m.orderer.queues) (waiting_of m.orderer.queues)) s))
                (sym (cond-true (nat_lt m.window.stable t) next m.window more)),
          ),
        );
        puts = refl;
        happens = refl;
      }
  hears-by false came p kept m s q n listed more i acked =
      let acks = noted q n m.acks in
      let t = min (stable_count acks) m.window.delivered in
      let next : WindowModel = record { stable = t; delivered = m.window.delivered; held = held_above t m.window.held } in
      let counts = noted-heard q n m.acks listed in
      record {
        acts = TakesAck m.view q n ∷ [];
        chain = (
          record { open_in = record { view = refl; installed = refl }; first = i.coordinator; member = ap (stands_in q) (sym i.heard) ∙ listed; acked = acked },
          ap (λ (a : Address → ℕ). Some (open_core p m.view kept (view_core_at m.window m.forwards a (ordered_of m.orderer.queues) (waiting_of m.orderer.queues)) s)) (sym counts)
              ∙ ap (λ (w : WindowModel). Some (open_core p m.view kept (view_core_at w m.forwards (λ r. count_of r acks) (ordered_of m.orderer.queues) (waiting_of m.orderer.queues)) s))
              (sym (cond-false (nat_lt m.window.stable t) next m.window more)),
        );
        puts = refl;
        happens = refl;
      }

  -- ---- Puts to each of a list

  pub puts-acts : (came : Option Posted) (c : Core S) (b : Body) (list : List Address) → ((q : Address) → Describes c q b)
      → Acted meaning came (Some c) (map (packet c.me b) list) [] (Some c)
  puts-acts came c b [] says = nothing-acted meaning came (Some c)
  puts-acts came c b (q ∷ list) says =
      let rest = puts-acts came c b list says in
      record { acts = Puts q b ∷ rest.acts; chain = (says q, rest.chain); puts = ap (λ l. packet c.me b q ∷ l) rest.puts; happens = rest.happens }

  -- ---- what it is afterwards

  pub one-coordinator : (p : Address) (m : Coordinator) (e : Entry) → IsCoordinator p m → is_distinct m.view.members ≡ true → Due m e → IsCoordinator p (after_one p (m.orderer.ordered + 1, e) m)
  one-coordinator p m e i distinct d =
      let x = served-fact m.orderer.queues e (ap is_distinct i.senders ∙ distinct) d.next in
      let g = m.window.delivered + 1 in
      let moved : WindowModel = record { stable = m.window.stable; delivered = g; held = held_with g e m.window.held } in
      let window : moved ≡ delivering (taken (m.orderer.ordered + 1) e m.window) =
      sym (ap (λ (n : ℕ). delivering (taken (n + 1) e m.window)) i.ordered ∙ next-taken m.window e d.room d.small (i.top g (omega arith))) in
      let orderer : record { ordered = m.orderer.ordered + 1; queues = change_first has_next served m.orderer.queues } ≡ ordering m.window.stable m.orderer =
      sym (cond-true (is_some (next_ordered m.window.stable m.orderer)) (record { ordered = m.orderer.ordered + 1; queues = change_first has_next served m.orderer.queues }) m.orderer (ap is_some d.due)) in
      record {
        coordinator = i.coordinator;
        heard = i.heard;
        senders = ap (λ (o : OrdererModel). senders_of o.queues) (sym orderer) ∙ x.senders ∙ i.senders;
        ordered = ap (λ (o : OrdererModel). o.ordered) (sym orderer) ∙ ap (λ n. n + 1) i.ordered ∙ ap (λ (w : WindowModel). w.delivered) window;
        top = subst (λ (w : WindowModel). (k : ℕ) → w.delivered < k → held_at k w.held ≡ None) window (λ k over. held_at-with k g e m.window.held
            ∙ ap (λ (b : Bool). cond b (Some e) (held_at k m.window.held)) (let b : nat_eq g k ≡ false = grind (arith, nat_tests) in b) ∙ i.top k (omega arith));
      }

  none-left : (b : Bool) (t k : ℕ) (held : List (ℕ × Entry)) → held_at k held ≡ None → cond b (held_at k held) None ≡ None
  none-left true t k held e = e
  none-left false t k held e = refl

  collected-top : (b : Bool) (t : ℕ) (w : WindowModel) → ((k : ℕ) → w.delivered < k → held_at k w.held ≡ None)
      → (let r : WindowModel = if b then record { stable = t; delivered = w.delivered; held = held_above t w.held } else w in
      (r.delivered ≡ w.delivered) × ((k : ℕ) → r.delivered < k → held_at k r.held ≡ None))
  collected-top true t w top = (refl, λ k over. held_at-above k t w.held ∙ none-left (nat_lt t k) t k w.held (top k over))
  collected-top false t w top = (refl, top)

  pub heard-coordinator : (p : Address) (m : Coordinator) (q : Address) (n : ℕ) → IsCoordinator p m → IsCoordinator p (acknowledged q n m)
  heard-coordinator p m q n i =
      let t = min (stable_count (noted q n m.acks)) m.window.delivered in
      let x = collected-top (nat_lt m.window.stable t) t m.window i.top in
      record { coordinator = i.coordinator; heard = members-noted q n m.acks ∙ i.heard; senders = i.senders; ordered = i.ordered ∙ sym x.0; top = x.1 }
