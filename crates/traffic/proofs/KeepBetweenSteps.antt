-- What holds of the coordinator between its steps, after a FORWARD, an ACK and a message of its own; and its own message is delivered at once.
use Rattle.std.proofs.Common.{◌≡◌, ℕ, ◌+◌, ◌-◌, ◌<◌, ◌≤◌, Bool, ◌||◌, ◌&&◌, true, false, cond, not, min, Option, Some, None, List, [], ◌∷◌, ◌++◌, map, length, refl, sym, ap, ◌∙◌, subst, arith, length-append, append_assoc, suc}
use Rattle.std.specs.Prelude.{if◌then◌else◌, nat_lt, nat_eq, nat_le, slice_get}
use Rattle.std.specs.List.{find, list_any}
use Rattle.std.specs.Option.{option_map}
use Rattle.std.proofs.lemmas.Bool.Decides.{nat_tests}
use Rattle.std.proofs.lemmas.Bool.{cond-true, cond-false}
use Rattle.std.proofs.lemmas.Option.{none-some, same_Some, slice_get_within}
use Rattle.address.specs.declared.limits.TheConstants.{OUTSTANDING, GREATEST_NUMBER, WINDOW}
use Rattle.address.specs.Ids.{Address, same_address}
use Rattle.view.specs.Members.{stands_in}
use Rattle.wire_values.specs.Values.{Entry}
use Rattle.state_transfer.specs.Meanings.{Meaning}
use Rattle.trace_props.specs.declared.event.Numbered.{Numbered}
use Rattle.trace_props.specs.declared.event.Event.{Event}
use Rattle.address.proofs.SameIds.{same_address-true, turned-about}
use Rattle.sequencer.specs.Forwards.{ForwardsModel, IsForwards, pushed, push_refusal}
use Rattle.address.specs.declared.refusal.Refusal.TheVariants.{Busy, Exhausted}
use Rattle.sequencer.specs.Queues.{Queue, change_first, follows, has_next, next_of, entry_with, first_next, next_ordered, may_order, is_from, takes, offered, waiting_with}
use Rattle.stability.specs.Counts.{count_of, noted, stable_count}
use Rattle.stability.proofs.Counts.{count-noted-le, stable-le-count, members-noted}
use Rattle.law_acts.specs.Acts.{delivery}
use Rattle.traffic.specs.declared.coordinator.Coordinator.{Coordinator}
use Rattle.step_output.specs.declared.output.Output.{Output}
use Rattle.step_output.specs.Outputs.{Grows}
use Rattle.traffic.specs.Coordinators.{IsCoordinator, queued, acknowledged, pushing}
use Rattle.traffic.specs.Goings.{sending}
use Rattle.traffic.specs.Turns.{turned, TurnsTo, Starts, Turns, Ordering, OrdersAll, IsSettled, own_queue, own_entry, SendsOrdering, DeliversOwnAtOnce}
use Rattle.trace_props.specs.declared.event.Event.TheVariants.{Sent}
use Rattle.traffic.proofs.AcksKnown.{noted-other}
use Rattle.traffic.proofs.OffersToOrder.{queue_with}
use Rattle.traffic.proofs.FewAreOrdered.{collected-by, collected-least, stable-le-noted}
use Rattle.step_output.specs.Steps.{who}
use Rattle.traffic.specs.InViews.{in_view}

-- ---- a FORWARD leaves the own queue

offered-sender : (b : Bool) (n : ℕ) (x : List ℕ) (r : Queue) → takes n r ≡ b → (offered n x r).sender ≡ r.sender
offered-sender true n x r t = ap (λ (z : Queue). z.sender) (cond-true (takes n r) (queue_with (record { number = n; payload = x }) r) r t)
offered-sender false n x r t = ap (λ (z : Queue). z.sender) (cond-false (takes n r) (queue_with (record { number = n; payload = x }) r) r t)

other-queue-by : (b : Bool) (p q : Address) (n : ℕ) (x : List ℕ) (r : Queue) (queues : List Queue) → same_address q r.sender ≡ b → same_address q p ≡ false
    → find (is_from p) (change_first (is_from q) (offered n x) queues) ≡ find (is_from p) queues
    → find (is_from p) (if b then offered n x r ∷ queues else r ∷ change_first (is_from q) (offered n x) queues) ≡ find (is_from p) (r ∷ queues)
other-queue-by true p q n x r queues s other later =
    let not_p : same_address p r.sender ≡ false = ap (same_address p) (sym (same_address-true q r.sender s)) ∙ turned-about (same_address p q) q p refl other in
    ap (λ (a : Address). cond (same_address p a) (Some (offered n x r)) (find (is_from p) queues)) (offered-sender (takes n r) n x r refl)
    ∙ cond-false (same_address p r.sender) (Some (offered n x r)) (find (is_from p) queues) not_p
    ∙ sym (cond-false (same_address p r.sender) (Some r) (find (is_from p) queues) not_p)
other-queue-by false p q n x r queues s other later = ap (λ (o : Option Queue). cond (same_address p r.sender) (Some r) o) later

other-queue : (p q : Address) (n : ℕ) (x : List ℕ) (queues : List Queue) → same_address q p ≡ false
    → find (is_from p) (change_first (is_from q) (offered n x) queues) ≡ find (is_from p) queues
other-queue p q n x [] other = refl
other-queue p q n x (r ∷ queues) other = other-queue-by (same_address q r.sender) p q n x r queues refl other (other-queue p q n x queues other)

pub settled-queued : (p q : Address) (n : ℕ) (x : List ℕ) (m new : Coordinator) → same_address q p ≡ false → IsSettled p m → new ≡ queued q n x m → IsSettled p new
settled-queued p q n x m new other s now = subst (λ (z : Coordinator). IsSettled p z) (sym now)
    (record { heard = s.heard; own_acked = s.own_acked; least = s.least; own = other-queue p q n x m.orderer.queues other ∙ s.own })

-- ---- an ACK

pub settled-heard : (p q : Address) (n : ℕ) (m new : Coordinator) → same_address q p ≡ false → IsCoordinator p m → stands_in q m.view.members ≡ true → n ≤ m.window.delivered → IsSettled p m → new ≡ acknowledged q n m → IsSettled p new
settled-heard p q n m new other i there under s now =
    let t = stable_count (noted q n m.acks) in
    let same = (collected-by (nat_lt m.window.stable (min t m.window.delivered)) t m.window).delivered in
    subst (λ (z : Coordinator). IsSettled p z) (sym now) (record {
      heard = λ r. subst (λ (k : ℕ). count_of r (noted q n m.acks) ≤ k) (sym same) (count-noted-le q r n m.window.delivered m.acks (λ x. under) (s.heard r));
      own_acked = noted-other p q n m.acks (turned-about (same_address p q) q p refl other) ∙ s.own_acked ∙ sym same;
      least = collected-least (nat_lt m.window.stable (min t m.window.delivered)) t m.window refl (let a = stable-le-noted q n m.acks in let b = s.least in omega (arith, a, b))
          (let a = stable-le-count q (noted q n m.acks) (ap (stands_in q) (members-noted q n m.acks ∙ i.heard) ∙ there) in
          let b : count_of q (noted q n m.acks) ≤ m.window.delivered = count-noted-le q q n m.window.delivered m.acks (λ x. under) (s.heard q) in omega (arith, a, b));
      own = s.own;
    })

-- ---- a message of its own

from-itself-by : (b : Bool) (p : Address) (n : ℕ) (x : List ℕ) (r z : Queue) (queues : List Queue) → same_address p r.sender ≡ b
    → (find (is_from p) queues ≡ Some z → find (is_from p) (change_first (is_from p) (offered n x) queues) ≡ Some (offered n x z))
    → cond b (Some r) (find (is_from p) queues) ≡ Some z
    → find (is_from p) (if b then offered n x r ∷ queues else r ∷ change_first (is_from p) (offered n x) queues) ≡ Some (offered n x z)
from-itself-by true p n x r z queues s later own =
    cond-true (same_address p (offered n x r).sender) (Some (offered n x r)) (find (is_from p) queues) (ap (same_address p) (offered-sender (takes n r) n x r refl) ∙ s)
    ∙ ap (λ (y : Queue). Some (offered n x y)) (same_Some r z own)
from-itself-by false p n x r z queues s later own =
    cond-false (same_address p r.sender) (Some r) (find (is_from p) (change_first (is_from p) (offered n x) queues)) s ∙ later own

from-itself : (p : Address) (n : ℕ) (x : List ℕ) (queues : List Queue) (z : Queue) → find (is_from p) queues ≡ Some z
    → find (is_from p) (change_first (is_from p) (offered n x) queues) ≡ Some (offered n x z)
from-itself p n x [] z own = absurd (none-some z own)
from-itself p n x (r ∷ queues) z own = from-itself-by (same_address p r.sender) p n x r z queues refl (from-itself p n x queues z) own

-- no number that was sent is greater than the count
none-waits : (n len j : ℕ) (rest : List Numbered) → ((k : ℕ) (f : Numbered) → slice_get rest k ≡ Some f → f.number + len ≡ n + (j + k) + 1) → j + length rest ≤ len
    → list_any (λ f. nat_eq (n + 1) f.number) rest ≡ false
none-waits n len j [] numbered within = refl
none-waits n len j (f ∷ rest) numbered within =
    let a : f.number + len ≡ n + (j + 0) + 1 = numbered 0 f refl in
    let t : nat_eq (n + 1) f.number ≡ false = (let k : f.number < n + 1 = omega (arith, a, within) in grind (arith, nat_tests)) in
    ap (λ (b : Bool). b || list_any (λ g. nat_eq (n + 1) g.number) rest) t
    ∙ none-waits n len (j + 1) rest (λ k g at. numbered (suc k) g at ∙ (let e : n + (j + suc k) + 1 ≡ n + (j + 1 + k) + 1 = omega arith in e)) (omega (arith, within))

busy-by : (a b : Bool) → (if a then Some Busy else if b then Some Exhausted else None) ≡ None → a ≡ false
busy-by true b e = absurd (none-some Busy (sym e))
busy-by false b e = refl

-- a number above all that wait comes at the end
last-with : (f : Numbered) (fs : List Numbered) → ((k : ℕ) (g : Numbered) → slice_get fs k ≡ Some g → g.number < f.number) → waiting_with f fs ≡ fs ++ f ∷ []
last-with f [] below = refl
last-with f (g ∷ fs) below =
    let low : g.number < f.number = below 0 g refl in
    let t : nat_lt f.number g.number ≡ false = grind (arith, nat_tests) in
    ap (λ (b : Bool). if b then f ∷ g ∷ fs else g ∷ waiting_with f fs) t ∙ ap (λ (gs : List Numbered). g ∷ gs) (last-with f fs (λ k h at. below (suc k) h at))

own-pushed : (p : Address) (x : List ℕ) (f : ForwardsModel) → IsForwards f → push_refusal f ≡ None → offered (f.sent + 1) x (own_queue p f) ≡ own_queue p (pushed x f)
own-pushed p x f i free =
    let len = length f.rest in
    let busy : nat_le OUTSTANDING len ≡ false = busy-by (nat_le OUTSTANDING len) (nat_le GREATEST_NUMBER f.sent) free in
    let room : len < OUTSTANDING = grind (arith, nat_tests) in
    let a : nat_lt (f.sent - len) (f.sent + 1) ≡ true = (let k : f.sent - len < f.sent + 1 = omega arith in grind (arith, nat_tests)) in
    let b : nat_le (f.sent + 1) (f.sent - len + OUTSTANDING) ≡ true = (let k : f.sent + 1 ≤ f.sent - len + OUTSTANDING = omega (arith, room, i.some) in grind (arith, nat_tests)) in
    let c : list_any (λ g. nat_eq (f.sent + 1) g.number) f.rest ≡ false = none-waits f.sent len 0 f.rest (λ k g at. i.numbered k g at ∙ (let e : f.sent + k + 1 ≡ f.sent + (0 + k) + 1 = omega arith in e)) (omega arith) in
    let t : takes (f.sent + 1) (own_queue p f) ≡ true =
    ap (λ (z : Bool). z && nat_le (f.sent + 1) (f.sent - len + OUTSTANDING) && not (list_any (λ g. nat_eq (f.sent + 1) g.number) f.rest)) a
    ∙ ap (λ (z : Bool). z && not (list_any (λ g. nat_eq (f.sent + 1) g.number) f.rest)) b ∙ ap not c in
    let new : Numbered = record { number = f.sent + 1; payload = x } in
    let more = f.rest ++ new ∷ [] in
    let last : waiting_with new f.rest ≡ more = last-with new f.rest (λ k g at. let m = i.numbered k g at in let w = slice_get_within f.rest k g at in omega (arith, m, w)) in
    let count : f.sent - len ≡ f.sent + 1 - length more = (let k : length more ≡ len + 1 = length-append f.rest (record { number = f.sent + 1; payload = x } ∷ []) in omega (arith, k)) in
    cond-true (takes (f.sent + 1) (own_queue p f)) (queue_with new (own_queue p f)) (own_queue p f) t
    ∙ ap (λ (ws : List Numbered). let r : Queue = record { sender = p; ordered = f.sent - len; waiting = ws } in r) last
    ∙ ap (λ (n : ℕ). let r : Queue = record { sender = p; ordered = n; waiting = more } in r) count

pub settled-sent : (p : Address) (x : List ℕ) (m b : Coordinator) → IsForwards m.forwards → push_refusal m.forwards ≡ None → IsSettled p m → b ≡ queued p (m.forwards.sent + 1) x (pushing x m)
    → IsSettled p b
settled-sent p x m b f free s end =
    subst (λ (z : Coordinator). IsSettled p z) (sym end) (record {
      heard = s.heard;
      own_acked = s.own_acked;
      least = s.least;
      own = from-itself p (m.forwards.sent + 1) x m.orderer.queues (own_queue p m.forwards) s.own ∙ ap Some (own-pushed p x m.forwards f free);
    })

-- ---- it is delivered at once

next-some : (test : Numbered → Bool) (q : Queue) (rest : List Numbered) → list_any test rest ≡ true → option_map (entry_with q) (find test rest) ≡ None → ⊥
next-some test q [] any none = let e : false ≡ true = any in cc
next-some test q (f ∷ rest) any none = by (test f) (next-some test q rest) any none
  where
    by : (b : Bool) → (list_any test rest ≡ true → option_map (entry_with q) (find test rest) ≡ None → ⊥) → (b || list_any test rest) ≡ true → option_map (entry_with q) (cond b (Some f) (find test rest)) ≡ None → ⊥
    by true later any none = none-some (entry_with q f) (sym none)
    by false later any none = later any none

not-next : (b : Bool) (q : Queue) (queues : List Queue) → has_next q ≡ b → (if b then next_of q else first_next queues) ≡ None → (has_next q ≡ false) × (first_next queues ≡ None)
not-next true q queues n none = absurd (next-some (follows q) q q.waiting n none)
not-next false q queues n none = (n, none)

none-next-of : (p : Address) (queues : List Queue) (z : Queue) → first_next queues ≡ None → find (is_from p) queues ≡ Some z → has_next z ≡ false
none-next-of p [] z none own = absurd (none-some z own)
none-next-of p (q ∷ queues) z none own = by (same_address p q.sender) (not-next (has_next q) q queues refl none) (none-next-of p queues z) own
  where
    by : (b : Bool) → (has_next q ≡ false) × (first_next queues ≡ None) → (first_next queues ≡ None → find (is_from p) queues ≡ Some z → has_next z ≡ false) → cond b (Some q) (find (is_from p) queues) ≡ Some z → has_next z ≡ false
    by true x later own = ap has_next (sym (same_Some q z own)) ∙ x.0
    by false x later own = later x.1 own

none-rests : (rest : List Numbered) (p : Address) (f : ForwardsModel) → IsForwards f → f.rest ≡ rest → list_any (follows (own_queue p f)) rest ≡ false → rest ≡ []
none-rests [] p f i is none = refl
none-rests (x ∷ rest) p f i is none =
    let n : x.number + length f.rest ≡ f.sent + 0 + 1 = i.numbered 0 x (ap (λ l. slice_get l 0) is) in
    let t : nat_eq (f.sent - length f.rest + 1) x.number ≡ true = (let k : f.sent - length f.rest + 1 ≡ x.number = omega (arith, n, i.some) in grind (arith, nat_tests)) in
    let c : true ≡ false = sym (ap (λ (b : Bool). b || list_any (follows (own_queue p f)) rest) t) ∙ none in cc

first-offered : (p : Address) (n : ℕ) (x : List ℕ) (queues : List Queue) (z : Queue) (e : Entry) → first_next queues ≡ None → find (is_from p) queues ≡ Some z → has_next (offered n x z) ≡ true
    → next_of (offered n x z) ≡ Some e → first_next (change_first (is_from p) (offered n x) queues) ≡ Some e
first-offered p n x [] z e none own next is = absurd (none-some z own)
first-offered p n x (q ∷ queues) z e none own next is = by (same_address p q.sender) refl (not-next (has_next q) q queues refl none) (λ rest own. first-offered p n x queues z e rest own next is) own
  where
    by : (b : Bool) → same_address p q.sender ≡ b → (has_next q ≡ false) × (first_next queues ≡ None)
        → (first_next queues ≡ None → find (is_from p) queues ≡ Some z → first_next (change_first (is_from p) (offered n x) queues) ≡ Some e) → cond b (Some q) (find (is_from p) queues) ≡ Some z
        → first_next (if b then offered n x q ∷ queues else q ∷ change_first (is_from p) (offered n x) queues) ≡ Some e
    by true s y later own =
        let same : q ≡ z = same_Some q z own in
        cond-true (has_next (offered n x q)) (next_of (offered n x q)) (first_next queues) (ap (λ (r : Queue). has_next (offered n x r)) same ∙ next)
        ∙ ap (λ (r : Queue). next_of (offered n x r)) same ∙ is
    by false s y later own =
        cond-false (has_next q) (next_of q) (first_next (change_first (is_from p) (offered n x) queues)) y.0 ∙ later y.1 own

-- the own queue with one message
one-next : (p : Address) (x : List ℕ) (f : ForwardsModel) → f.rest ≡ [] → (has_next (own_queue p (pushed x f)) ≡ true) × (next_of (own_queue p (pushed x f)) ≡ Some (record { sender = p; number = f.sent + 1; payload = x }))
one-next p x f none =
    let g : Numbered = record { number = f.sent + 1; payload = x } in
    let z : Queue = record { sender = p; ordered = f.sent + 1 - 1; waiting = g ∷ [] } in
    let t : nat_eq (f.sent + 1 - 1 + 1) (f.sent + 1) ≡ true = (let k : f.sent + 1 - 1 + 1 ≡ f.sent + 1 = omega arith in grind (arith, nat_tests)) in
    let is : own_queue p (pushed x f) ≡ z = ap (λ (l : List Numbered). let r : Queue = record { sender = p; ordered = f.sent + 1 - length (l ++ g ∷ []); waiting = l ++ g ∷ [] } in r) none
    ∙ ap (λ (k : ℕ). let r : Queue = record { sender = p; ordered = f.sent + 1 - k; waiting = g ∷ [] } in r) (let k : length (g ∷ []) ≡ 1 = omega arith in k) in
    (ap has_next is ∙ ap (λ (b : Bool). b || false) t, ap next_of is ∙ ap (λ (b : Bool). option_map (entry_with z) (cond b (Some g) None)) t)

pub own-next : (p : Address) (x : List ℕ) (m : Coordinator) → IsForwards m.forwards → push_refusal m.forwards ≡ None → IsSettled p m → next_ordered m.window.stable m.orderer ≡ None
    → may_order m.window.stable m.orderer ≡ true
    → next_ordered (queued p (m.forwards.sent + 1) x (pushing x m)).window.stable (queued p (m.forwards.sent + 1) x (pushing x m)).orderer ≡ Some (own_entry p m x)
own-next p x m f free s rested may =
    let n = m.forwards.sent + 1 in
    let none : first_next m.orderer.queues ≡ None = sym (cond-true (may_order m.window.stable m.orderer) (first_next m.orderer.queues) None may) ∙ rested in
    let empty : m.forwards.rest ≡ [] = none-rests m.forwards.rest p m.forwards f refl (none-next-of p m.orderer.queues (own_queue p m.forwards) none s.own) in
    let y = one-next p x m.forwards empty in
    let same = own-pushed p x m.forwards f free in
    cond-true (may_order m.window.stable m.orderer) (first_next (change_first (is_from p) (offered n x) m.orderer.queues)) None may
    ∙ first-offered p n x m.orderer.queues (own_queue p m.forwards) (own_entry p m x) none s.own (ap has_next same ∙ y.0) (ap next_of same ∙ y.1)

-- the first of several is the one that came next at the start
abbrev FrontIs : Entry → Coordinator → Coordinator → List Entry → Type 0
FrontIs e a n [] = n ≡ a
FrontIs e a n (x ∷ xs) = x ≡ e

front-step : (e f : Entry) (a k n : Coordinator) (es : List Entry) → FrontIs e a k es → next_ordered a.window.stable a.orderer ≡ Some e → next_ordered k.window.stable k.orderer ≡ Some f → FrontIs e a n (es ++ f ∷ [])
front-step e f a k n [] front start due = same_Some f e (sym due ∙ ap (λ (z : Coordinator). next_ordered z.window.stable z.orderer) front ∙ start)
front-step e f a k n (x ∷ es) front start due = front

front : (p : Address) (e : Entry) (a n : Coordinator) (es : List Entry) → TurnsTo p a es n → next_ordered a.window.stable a.orderer ≡ Some e → FrontIs e a n es
front p e a n es (Starts m) start = refl
front p e a n es (Turns m k fs f x due) start = front-step e f a k (turned p f k) fs (front p e a k fs x start) start due

delivers-own-by : (es : List Entry) (p : Address) (x : List ℕ) (m a n : Coordinator) (out more : Output) → FrontIs (own_entry p m x) a n es → next_ordered a.window.stable a.orderer ≡ Some (own_entry p m x)
    → next_ordered n.window.stable n.orderer ≡ None
    → more.events.items ≡ out.events.items ++ Sent (sending p m.view.id (m.forwards.sent + 1) x) ∷ map (delivery p m.view.id) es → DeliversOwnAtOnce p x m out more
delivers-own-by [] p x m a n out more front start done happens =
    absurd (none-some (own_entry p m x) (sym done ∙ ap (λ (z : Coordinator). next_ordered z.window.stable z.orderer) front ∙ start))
delivers-own-by (e ∷ es) p x m a n out more front start done happens = record {
  rest = es;
  happens = happens ∙ ap (λ (f : Entry). out.events.items ++ Sent (sending p m.view.id (m.forwards.sent + 1) x) ∷ map (delivery p m.view.id) (f ∷ es)) front;
}

module _ {S : Type 0} (meaning : Meaning S) where
  pub sends-orders : (p : Address) (group : List ℕ) (x : List ℕ) (m b : Coordinator) (s : S) (out between : Output) (new : Coordinator) (t : S) (more : Output) → b ≡ queued p (m.forwards.sent + 1) x (pushing x m)
      → Grows group out between [] (Sent (sending p m.view.id (m.forwards.sent + 1) x) ∷ []) → Ordering meaning (who p group) (in_view b s between) (in_view new t more) → next_ordered new.window.stable new.orderer ≡ None
      → SendsOrdering meaning (who p group) x (in_view m s out) (in_view new t more)
  sends-orders p group x m b s out between new t more end sent orders done = record {
    between = between;
    sent = sent;
    done = done;
    orders = subst (λ (z : Coordinator). Ordering meaning (who p group) (in_view z s between) (in_view new t more)) end orders;
  }

  pub delivers-own-at-once : (p : Address) (group : List ℕ) (x : List ℕ) (m : Coordinator) (s : S) (out : Output) (new : Coordinator) (t : S) (more : Output) → IsForwards m.forwards → push_refusal m.forwards ≡ None → IsSettled p m
      → next_ordered m.window.stable m.orderer ≡ None → SendsOrdering meaning (who p group) x (in_view m s out) (in_view new t more) → may_order m.window.stable m.orderer ≡ true → DeliversOwnAtOnce p x m out more
  delivers-own-at-once p group x m s out new t more f free z rested sends may =
      let start = own-next p x m f free z rested may in
      let o = sends.orders in
      delivers-own-by o.entries p x m (queued p (m.forwards.sent + 1) x (pushing x m)) new out more
      (front p (own_entry p m x) (queued p (m.forwards.sent + 1) x (pushing x m)) new o.entries o.turns start) start sends.done
      (o.grows.events ∙ ap (λ l. l ++ map (delivery p m.view.id) o.entries) sends.sent.events
      ∙ append_assoc out.events.items (Sent (sending p m.view.id (m.forwards.sent + 1) x) ∷ []) (map (delivery p m.view.id) o.entries))

pub few-more : (v : Event) (out between more : List Event) → between ≡ out ++ v ∷ [] → length more ≤ length between + WINDOW → length more ≤ length out + (WINDOW + 1)
few-more v out between more sent few = let k : length between ≡ length out + 1 = ap length sent ∙ length-append out (v ∷ []) in omega (arith, k, few)

pub ack-heard : {S : Type 0} (meaning : Meaning S) (p : Address) (group : List ℕ) (q : Address) (n : ℕ) (m a : Coordinator) (s : S) (out : Output) (new : Coordinator) (t : S) (more : Output) → a ≡ acknowledged q n m
    → Ordering meaning (who p group) (in_view a s out) (in_view new t more) → next_ordered new.window.stable new.orderer ≡ None → OrdersAll meaning (who p group) (in_view (acknowledged q n m) s out) (in_view new t more)
ack-heard meaning p group q n m a s out new t more heard orders done = (subst (λ (z : Coordinator). Ordering meaning (who p group) (in_view z s out) (in_view new t more)) heard orders, done)
