-- Few messages are ordered in one step: what another member did not acknowledge stays within the window's reach; alone, only its own that are outstanding wait.
use Rattle.std.proofs.Common.{◌≡◌, ℕ, ◌+◌, ◌<◌, ◌≤◌, Bool, ◌||◌, ◌&&◌, true, false, cond, not, max, min, Some, None, List, [], ◌∷◌, map, length, refl, sym, ap, ◌∙◌, subst, arith, length-append}
use Rattle.std.specs.Prelude.{if◌then◌else◌, nat_lt, nat_eq}
use Rattle.std.specs.List.{find}
use Rattle.std.proofs.lemmas.Bool.Decides.{nat_tests}
use Rattle.std.proofs.lemmas.Option.{none-some, same_Some}
use Rattle.std.proofs.lemmas.List.{append-nil, length-map}
use Rattle.address.specs.declared.limits.TheConstants.{WINDOW, MEMBERS}
use Rattle.address.specs.Ids.{Address, same_address}
use Rattle.view.specs.Members.{View, stands_in, is_distinct}
use Rattle.view.specs.View.{view_refusal, begins_with}
use Rattle.view.specs.declared.ViewError.TheVariants.{Empty, TooMany, Repeated, NotFirst}
use Rattle.wire_values.specs.Values.{Entry}
use Rattle.state_transfer.specs.Meanings.{Meaning}
use Rattle.address.proofs.SameIds.{same_address-refl, same_address-true, turned-about}
use Rattle.nak_stream.specs.Windows.{WindowModel, IsWindow, held_with, held_above, taken, delivering}
use Rattle.sequencer.specs.Forwards.{IsForwards}
use Rattle.sequencer.specs.Queues.{Queue, next_ordered, is_from, entry_with}
use Rattle.stability.specs.Counts.{count_of, raised, noted, stable_count}
use Rattle.stability.specs.declared.Ack.{Ack}
use Rattle.stability.proofs.Counts.{stable-le-count}
use Rattle.law_acts.specs.Acts.{delivery}
use Rattle.traffic.specs.declared.coordinator.Coordinator.{Coordinator}
use Rattle.traffic.specs.ViewStates.{waiting_of, waiting_in, senders_of}
use Rattle.traffic.specs.Coordinators.{IsCoordinator, after_one}
use Rattle.traffic.specs.Turns.{turned, TurnsTo, Starts, Turns, Ordering, IsSettled, IsFew, own_queue}
use Rattle.traffic.proofs.Windows.{next-taken}
use Rattle.traffic.proofs.AcksKnown.{noted-other}
use Rattle.traffic.proofs.ActsOfCoordinator.{due-fact, distinct-in, one-coordinator, heard-coordinator}
use Rattle.traffic.proofs.ActsOfTurns.{one-shorter}
use Rattle.step_output.specs.Steps.{Who}
use Rattle.traffic.specs.InViews.{InView}

-- ---- one turn

pub record Collected (t : ℕ) (w r : WindowModel) : Type 0 where
  pub delivered : r.delivered ≡ w.delivered
  pub bound : (b : ℕ) → w.stable ≤ b → t ≤ b → r.stable ≤ b
  pub low : w.stable ≤ w.delivered → r.stable ≤ r.delivered

pub collected-by : (b : Bool) (t : ℕ) (w : WindowModel)
    → Collected t w (if b then record { stable = min t w.delivered; delivered = w.delivered; held = held_above (min t w.delivered) w.held } else w)
collected-by true t w = record { delivered = refl; bound = λ b x y. omega arith; low = λ x. omega arith }
collected-by false t w = record { delivered = refl; bound = λ b x y. x; low = λ x. x }

pub collected-least : (b : Bool) (t : ℕ) (w : WindowModel) → nat_lt w.stable (min t w.delivered) ≡ b → w.stable ≤ t → t ≤ w.delivered
    → (let r : WindowModel = if b then record { stable = min t w.delivered; delivered = w.delivered; held = held_above (min t w.delivered) w.held } else w in r.stable ≡ t)
collected-least true t w e low high = omega (arith, high)
collected-least false t w e low high = let x : min t w.delivered ≤ w.stable = grind (arith, nat_tests) in omega (arith, x, low, high)

count-raised : (b : Bool) (n : ℕ) (a : Ack) → a.count ≤ (if b then record { member = a.member; count = max a.count n } else a).count
count-raised true n a = omega arith
count-raised false n a = omega arith

least-step : (z : Bool) (x k y l : ℕ) → x ≤ k → y ≤ l → (if z then x else min x y) ≤ (if z then k else min k l)
least-step true x k y l a b = a
least-step false x k y l a b = omega (arith, a, b)

-- what is stable never falls
pub stable-le-noted : (q : Address) (n : ℕ) (acks : List Ack) → stable_count acks ≤ stable_count (noted q n acks)
stable-le-noted q n [] = omega arith
stable-le-noted q n (a ∷ acks) =
    subst (λ (k : ℕ). stable_count (a ∷ acks) ≤ (if nat_eq k 0 then (raised q n a).count else min (raised q n a).count (stable_count (noted q n acks)))) (sym (length-map acks (raised q n)))
    (least-step (nat_eq (length acks) 0) a.count (raised q n a).count (stable_count acks) (stable_count (noted q n acks)) (count-raised (same_address q a.member) n a) (stable-le-noted q n acks))

pub record Turned (p : Address) (m n : Coordinator) : Type 0 where
  pub coordinator : IsCoordinator p n
  pub low : n.window.stable ≤ n.window.delivered
  pub delivered : n.window.delivered ≡ m.window.delivered + 1
  pub bound : (b : ℕ) → m.window.stable ≤ b → stable_count n.acks ≤ b → n.window.stable ≤ b
  pub acks : n.acks ≡ noted p (m.window.delivered + 1) m.acks
  pub least : m.window.stable ≤ stable_count n.acks → stable_count n.acks ≤ m.window.delivered + 1 → n.window.stable ≡ stable_count n.acks
  pub shorter : length (waiting_of n.orderer.queues) < length (waiting_of m.orderer.queues)

module _ {S : Type 0} (meaning : Meaning S) where
  pub turned-fact : (p : Address) (m : Coordinator) (e : Entry) → IsCoordinator p m → m.window.stable ≤ m.window.delivered → view_refusal m.view.id m.view.members ≡ None
      → next_ordered m.window.stable m.orderer ≡ Some e → Turned p m (turned p e m)
  turned-fact p m e i low sound due =
      let d = due-fact m e i.ordered low due in
      let distinct = distinct-in m.view sound in
      let g = m.window.delivered + 1 in
      let next = after_one p (m.orderer.ordered + 1, e) m in
      let moved : WindowModel = record { stable = m.window.stable; delivered = g; held = held_with g e m.window.held } in
      let window : next.window ≡ moved = ap (λ (n : ℕ). delivering (taken (n + 1) e m.window)) i.ordered ∙ next-taken m.window e d.room d.small (i.top g (omega arith)) in
      let delivered_now : next.window.delivered ≡ g = ap (λ (w : WindowModel). w.delivered) window in
      let t = stable_count (noted p next.window.delivered m.acks) in
      let c = collected-by (nat_lt next.window.stable (min t next.window.delivered)) t next.window in
      let under : m.window.stable ≤ g = omega arith in
      record {
        coordinator = heard-coordinator meaning p next p next.window.delivered (one-coordinator meaning p m e i distinct d);
        low = c.low (subst (λ (w : WindowModel). w.stable ≤ w.delivered) (sym window) under);
        delivered = c.delivered ∙ delivered_now;
        bound = λ b x y. c.bound b (subst (λ (w : WindowModel). w.stable ≤ b) (sym window) x) y;
        acks = ap (λ (k : ℕ). noted p k m.acks) delivered_now;
        shorter = one-shorter p m e i distinct d;
        least = λ x y. collected-least (nat_lt next.window.stable (min t next.window.delivered)) t next.window refl (subst (λ (w : WindowModel). w.stable ≤ t) (sym window) x)
            (subst (λ (k : ℕ). t ≤ k) (sym delivered_now) y);
      }

  -- ---- several

  pub record Turning (p : Address) (old : Coordinator) (entries : List Entry) (n : Coordinator) : Type 0 where
    pub coordinator : IsCoordinator p n
    pub low : n.window.stable ≤ n.window.delivered
    pub view : n.view ≡ old.view
    pub delivered : n.window.delivered ≡ old.window.delivered + length entries
    pub shorter : length entries + length (waiting_of n.orderer.queues) ≤ length (waiting_of old.orderer.queues)

  pub turning : (p : Address) (old n : Coordinator) (entries : List Entry) → TurnsTo p old entries n → IsCoordinator p old → old.window.stable ≤ old.window.delivered
      → view_refusal old.view.id old.view.members ≡ None → Turning p old entries n
  turning p old n entries (Starts m) i low sound = record { coordinator = i; low = low; view = refl; delivered = omega arith; shorter = omega arith }
  turning p old n entries (Turns m k es e x due) i low sound =
      let y = turning p old k es x i low sound in
      let z = turned-fact p k e y.coordinator y.low (subst (λ (v : View). view_refusal v.id v.members ≡ None) (sym y.view) sound) due in
      record {
        coordinator = z.coordinator;
        low = z.low;
        view = y.view;
        delivered = simp length-append (omega (arith, z.delivered, y.delivered));
        shorter = simp length-append (omega (arith, z.shorter, y.shorter));
      }

  -- another member is in the view
  record Near (p q : Address) (old : Coordinator) (entries : List Entry) (n : Coordinator) : Type 0 where
    pub few : length entries ≤ WINDOW
    pub stable : n.window.stable ≤ old.window.delivered
    pub heard : count_of q n.acks ≡ count_of q old.acks

  near : (p q : Address) (old n : Coordinator) (entries : List Entry) → TurnsTo p old entries n → IsCoordinator p old → old.window.stable ≤ old.window.delivered
      → view_refusal old.view.id old.view.members ≡ None → same_address q p ≡ false → stands_in q old.view.members ≡ true → count_of q old.acks ≤ old.window.delivered → Near p q old entries n
  near p q old n entries (Starts m) i low sound other there heard = record { few = omega arith; stable = low; heard = refl }
  near p q old n entries (Turns m k es e x due) i low sound other there heard =
      let y = turning p old k es x i low sound in
      let z = turned-fact p k e y.coordinator y.low (subst (λ (v : View). view_refusal v.id v.members ≡ None) (sym y.view) sound) due in
      let w = near p q old k es x i low sound other there heard in
      let d = due-fact k e y.coordinator.ordered y.low due in
      let same : count_of q (turned p e k).acks ≡ count_of q old.acks = ap (count_of q) z.acks ∙ noted-other q p (k.window.delivered + 1) k.acks other ∙ w.heard in
      let least : stable_count (turned p e k).acks ≤ count_of q (turned p e k).acks =
      stable-le-count q (turned p e k).acks (ap (stands_in q) z.coordinator.heard ∙ ap (λ (v : View). stands_in q v.members) y.view ∙ there) in
      record {
        few = simp length-append (omega (arith, d.room, w.stable, y.delivered));
        stable = z.bound old.window.delivered w.stable (omega (arith, least, same, heard));
        heard = same;
      }

  -- ---- who is in the view

  first-by : (a b c d : Bool) → (if a then Some Empty else if b then Some TooMany else if not c then Some Repeated else if not d then Some NotFirst else None) ≡ None → d ≡ true
  first-by true b c d e = absurd (none-some Empty (sym e))
  first-by false true c d e = absurd (none-some TooMany (sym e))
  first-by false false true true e = refl
  first-by false false true false e = absurd (none-some NotFirst (sym e))
  first-by false false false d e = absurd (none-some Repeated (sym e))

  or-none : (b c : Bool) → (not (b || c)) ≡ true → b ≡ false
  or-none true c h = cc
  or-none false c h = refl

  and-first : (b c : Bool) → (b && c) ≡ true → b ≡ true
  and-first true c h = refl
  and-first false c h = cc

  is-own : (b : Bool) (p : Address) (q : Queue) (z : Queue) → same_address p q.sender ≡ b → cond b (Some q) None ≡ Some z → q ≡ z
  is-own true p q z s h = same_Some q z h
  is-own false p q z s h = absurd (none-some z h)

  alone-waiting : (p : Address) (queues : List Queue) (z : Queue) → length (senders_of queues) ≡ 1 → find (is_from p) queues ≡ Some z → length (waiting_of queues) ≡ length z.waiting
  alone-waiting p [] z one own = absurd (none-some z own)
  alone-waiting p (q ∷ []) z one own =
      ap length (append-nil (waiting_in q)) ∙ length-map q.waiting (entry_with q) ∙ ap (λ (x : Queue). length x.waiting) (is-own (same_address p q.sender) p q z refl own)
  alone-waiting p (q ∷ r ∷ queues) z one own = absurd (omega (arith, one))

  few-by : (p : Address) (members : List Address) (old n : Coordinator) (entries : List Entry) → old.view.members ≡ members → TurnsTo p old entries n → IsCoordinator p old → IsSettled p old
      → IsWindow old.window → IsForwards old.forwards → view_refusal old.view.id old.view.members ≡ None → begins_with old.view.id.creator members ≡ true → is_distinct members ≡ true
      → length entries ≤ WINDOW
  few-by p [] old n entries is x i s w f sound begins distinct = cc
  few-by p (a ∷ []) old n entries is x i s w f sound begins distinct =
      let y = turning p old n entries x i w.counts sound in
      let k : length (waiting_of old.orderer.queues) ≡ length old.forwards.rest = alone-waiting p old.orderer.queues (own_queue p old.forwards) (ap length (i.senders ∙ is)) s.own in
      omega (arith, y.shorter, k, f.few)
  few-by p (a ∷ q ∷ rest) old n entries is x i s w f sound begins distinct =
      let one : old.view.id.creator ≡ a = same_address-true old.view.id.creator a begins in
      let same : p ≡ a = same_address-true p old.view.id.creator i.coordinator ∙ one in
      let apart : same_address a q ≡ false = or-none (same_address a q) (stands_in a rest) (and-first (not (same_address a q || stands_in a rest)) (is_distinct (q ∷ rest)) distinct) in
      let other : same_address q p ≡ false = turned-about (same_address q p) p q refl (ap (λ (r : Address). same_address r q) same ∙ apart) in
      let there : stands_in q old.view.members ≡ true = ap (stands_in q) is ∙ by (same_address q a) (same_address q q) (stands_in q rest) (same_address-refl q) in
      (near p q old n entries x i w.counts sound other there (s.heard q)).few
    where
      by : (b c d : Bool) → c ≡ true → (b || (c || d)) ≡ true
      by true c d h = refl
      by false true d h = refl
      by false false d h = cc

  pub few : (w : Who) (a b : InView Coordinator S) → Ordering meaning w a b → IsCoordinator w.address a.part → IsSettled w.address a.part → IsWindow a.part.window → IsForwards a.part.forwards
      → view_refusal a.part.view.id a.part.view.members ≡ None → IsFew a.out b.out
  few w a b x i z window f sound =
      let p = w.address in
      let old = a.part in
      let k = few-by p old.view.members old b.part x.entries refl x.turns i z window f sound
      (first-by (nat_eq (length old.view.members) 0) (nat_lt MEMBERS (length old.view.members)) (is_distinct old.view.members) (begins_with old.view.id.creator old.view.members) sound)
      (distinct-in old.view sound) in
      let grown : length b.out.events.items ≡ length a.out.events.items + length x.entries =
      ap length x.grows.events ∙ length-append a.out.events.items (map (delivery p old.view.id) x.entries)
      ∙ ap (λ j. length a.out.events.items + j) (length-map x.entries (delivery p old.view.id)) in
      omega (arith, k, grown)
