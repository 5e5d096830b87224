-- A coordinator that hears a FORWARD or an ACK goes further: what was covered stays so, each message that is ordered counts, and no count falls.
use Rattle.std.proofs.Common.{◌≡◌, ℕ, ◌+◌, ◌-◌, ◌≤◌, ◌<◌, Bool, true, false, cond, ◌||◌, ◌&&◌, None, Some, List, [], ◌∷◌, length, max, min, nat_eq, nat_lt, inl, inr, ◌⊎◌, refl, sym, ap, ◌∙◌, subst, arith}
use Rattle.std.specs.Prelude.{if◌then◌else◌}
use Rattle.std.proofs.lemmas.Bool.Decides.{nat_tests}
use Rattle.std.proofs.lemmas.Option.{none-some}
use Rattle.address.specs.declared.limits.TheConstants.{WINDOW, GREATEST_NUMBER}
use Rattle.address.specs.Ids.{Address, same_address}
use Rattle.address.proofs.SameIds.{same_address-refl, same_address-true}
use Rattle.view.specs.Members.{stands_in, is_distinct}
use Rattle.wire_values.specs.Values.{Entry}
use Rattle.stability.specs.declared.Ack.{Ack}
use Rattle.stability.specs.Counts.{noted, stable_count, members_of, count_of}
use Rattle.std.specs.Prelude.{is_some}
use Rattle.std.proofs.lemmas.Bool.{cond-true}
use Rattle.sequencer.specs.Forwards.{one_delivered}
use Rattle.sequencer.specs.Queues.{OrdererModel, ordering, change_first, has_next, served, first_next, next_ordered, may_order}
use Rattle.traffic.specs.declared.coordinator.Coordinator.{Coordinator}
use Rattle.traffic.specs.Coordinators.{queued, after_one, acknowledged}
use Rattle.traffic.specs.Turns.{turned, TurnsTo}
use Rattle.traffic.specs.Turns.TurnsTo.{Starts, Turns}
use Rattle.traffic.specs.ViewStates.{senders_of, ordered_of}
use Rattle.traffic.proofs.Covered.{Covered, covered-offered, covered-served, all_ordered, one-ordered-more, offered-ordered, none-covered, rest-distinct, EachQueue}

-- ---- counts

-- a count that is noted lowers none
pub noted-raises : (q p : Address) (n : ℕ) (acks : List Ack) → count_of q acks ≤ count_of q (noted p n acks)
noted-raises q p n [] = omega arith
noted-raises q p n (a ∷ acks) = by (same_address p a.member) (same_address q a.member) refl (noted-raises q p n acks)
  where
    by : (b c : Bool) → same_address q a.member ≡ c → count_of q acks ≤ count_of q (noted p n acks)
        → cond c a.count (count_of q acks) ≤ (let r : Ack = if b then record { member = a.member; count = max a.count n } else a in if same_address q r.member then r.count else count_of q (noted p n acks))
    by true true is later = rw is (omega arith)
    by true false is later = rw is later
    by false true is later = rw is (omega arith)
    by false false is later = rw is later

-- it is noted
pub noted-here : (q : Address) (n : ℕ) (acks : List Ack) → stands_in q (members_of acks) ≡ true → n ≤ count_of q (noted q n acks)
noted-here q n [] there = absurd (let bad : false ≡ true = there in cc)
noted-here q n (a ∷ acks) there = by (same_address q a.member) refl there (noted-here q n acks)
  where
    by : (b : Bool) → same_address q a.member ≡ b → (b || stands_in q (members_of acks)) ≡ true → (stands_in q (members_of acks) ≡ true → n ≤ count_of q (noted q n acks))
        → n ≤ (let r : Ack = if b then record { member = a.member; count = max a.count n } else a in if same_address q r.member then r.count else count_of q (noted q n acks))
    by true is there later = rw is (omega arith)
    by false is there later = rw is (later there)

-- what each acknowledged is stable
pub stable-least : (x : ℕ) (acks : List Ack) → is_distinct (members_of acks) ≡ true → nat_eq (length acks) 0 ≡ false → ((q : Address) → stands_in q (members_of acks) ≡ true → x ≤ count_of q acks)
    → x ≤ stable_count acks
stable-least x [] d some each = absurd (let bad : true ≡ false = some in cc)
stable-least x (a ∷ acks) d some each =
    let r = rest-distinct (stands_in a.member (members_of acks)) (is_distinct (members_of acks)) d in
    let itself = same_address-refl a.member in
    let first : x ≤ a.count = subst (λ (b : Bool). x ≤ cond b a.count (count_of a.member acks)) itself (each a.member (ap (λ (b : Bool). b || stands_in a.member (members_of acks)) itself)) in
    by (nat_eq (length acks) 0) refl first (λ f. stable-least x acks r.1 f (λ q there. other r.0 q there))
  where
    other : stands_in a.member (members_of acks) ≡ false → (q : Address) → stands_in q (members_of acks) ≡ true → x ≤ count_of q acks
    other apart q there = at (same_address q a.member) refl (each q (either (same_address q a.member) there))
      where
        either : (b : Bool) {c : Bool} → c ≡ true → (b || c) ≡ true
        either true e = refl
        either false e = e

        at : (b : Bool) → same_address q a.member ≡ b → x ≤ cond b a.count (count_of q acks) → x ≤ count_of q acks
        at true e y = absurd (let bad : true ≡ false = sym there ∙ ap (λ (r : Address). stands_in r (members_of acks)) (same_address-true q a.member e) ∙ apart in cc)
        at false e y = y

    by : (b : Bool) → nat_eq (length acks) 0 ≡ b → x ≤ a.count → (nat_eq (length acks) 0 ≡ false → x ≤ stable_count acks) → x ≤ cond b a.count (min a.count (stable_count acks))
    by true e first later = first
    by false e first later = let y = later e in omega (arith, first, y)

-- ---- further

pub record Further (m n : Coordinator) : Type 0 where
  pub view : n.view ≡ m.view
  pub covered : (q : Address) (k : ℕ) → Covered q k m.orderer.queues → Covered q k n.orderer.queues
  pub counts : all_ordered n.orderer.queues + m.orderer.ordered ≡ all_ordered m.orderer.queues + n.orderer.ordered
  pub acks : (q : Address) → count_of q m.acks ≤ count_of q n.acks
  pub more : m.orderer.ordered ≤ n.orderer.ordered
  pub sent : n.forwards.sent ≡ m.forwards.sent

pub still : (m : Coordinator) → Further m m
still m = record { view = refl; covered = λ q k c. c; counts = refl; acks = λ q. omega arith; more = omega arith; sent = refl }

pub further-then : (m n o : Coordinator) → Further m n → Further n o → Further m o
further-then m n o a b = record {
  view = b.view ∙ a.view;
  covered = λ q k c. b.covered q k (a.covered q k c);
  counts = let x = a.counts in let y = b.counts in omega (arith, x, y);
  acks = λ q. let x = a.acks q in let y = b.acks q in omega (arith, x, y);
  more = let x = a.more in let y = b.more in omega (arith, x, y);
  sent = b.sent ∙ a.sent;
}

pub queued-further : (q : Address) (n : ℕ) (x : List ℕ) (m : Coordinator) → Further m (queued q n x m)
queued-further q n x m = record {
  view = refl;
  covered = λ r k c. covered-offered r q k n x m.orderer.queues c;
  counts = let y = offered-ordered q n x m.orderer.queues in omega (arith, y);
  acks = λ r. omega arith;
  more = omega arith;
  sent = refl;
}

pub acknowledged-further : (q : Address) (n : ℕ) (m : Coordinator) → Further m (acknowledged q n m)
acknowledged-further q n m = record { view = refl; covered = λ r k c. c; counts = refl; acks = λ r. noted-raises r q n m.acks; more = omega arith; sent = refl }

one-ordered : (p : Address) (m : Coordinator) (e : Entry) → next_ordered m.window.stable m.orderer ≡ Some e
    → ordering m.window.stable m.orderer ≡ record { ordered = m.orderer.ordered + 1; queues = change_first has_next served m.orderer.queues }
one-ordered p m e due =
    cond-true (is_some (next_ordered m.window.stable m.orderer)) (record { ordered = m.orderer.ordered + 1; queues = change_first has_next served m.orderer.queues }) m.orderer (ap is_some due)

turned-further : (p : Address) (e : Entry) (m : Coordinator) → next_ordered m.window.stable m.orderer ≡ Some e → Further m (turned p e m)
turned-further p e m due =
    let o = one-ordered p m e due in
    let first : first_next m.orderer.queues ≡ Some e = next-first (may_order m.window.stable m.orderer) due in
    record {
      view = refl;
      covered = λ q k c. subst (λ (w : OrdererModel). Covered q k w.queues) (sym o) (covered-served q k m.orderer.queues c);
      counts = subst (λ (w : OrdererModel). all_ordered w.queues + m.orderer.ordered ≡ all_ordered m.orderer.queues + w.ordered) (sym o) (let y = one-ordered-more m.orderer.queues e first in omega (arith, y));
      acks = λ q. noted-raises q p (after_one p (m.orderer.ordered + 1, e) m).window.delivered m.acks;
      more = subst (λ (w : OrdererModel). m.orderer.ordered ≤ w.ordered) (sym o) (omega arith);
      sent = sent-by (same_address e.sender p);
    }
  where
    sent-by : (b : Bool) → (cond b (one_delivered m.forwards) m.forwards).sent ≡ m.forwards.sent
    sent-by true = refl
    sent-by false = refl

    next-first : (b : Bool) → cond b (first_next m.orderer.queues) None ≡ Some e → first_next m.orderer.queues ≡ Some e
    next-first true x = x
    next-first false x = absurd (none-some e x)

pub turns-further : (p : Address) (m n : Coordinator) (entries : List Entry) → TurnsTo p m entries n → Further m n
turns-further p _ _ _ (Starts m) = still m
turns-further p m _ _ (Turns _ n entries e before due) = further-then m n (turned p e n) (turns-further p m n entries before) (turned-further p e n due)

-- ---- where nothing may be ordered

-- nothing waits next, or the window is full
pub full-or-none : (m : Coordinator) → next_ordered m.window.stable m.orderer ≡ None → m.orderer.ordered < GREATEST_NUMBER
    → (first_next m.orderer.queues ≡ None) ⊎ (m.window.stable + WINDOW ≤ m.orderer.ordered)
full-or-none m none room = by (nat_lt (m.orderer.ordered - m.window.stable) WINDOW) (nat_lt m.orderer.ordered GREATEST_NUMBER) refl refl none
  where
    by : (b c : Bool) → nat_lt (m.orderer.ordered - m.window.stable) WINDOW ≡ b → nat_lt m.orderer.ordered GREATEST_NUMBER ≡ c → cond (b && c) (first_next m.orderer.queues) None ≡ None
        → (first_next m.orderer.queues ≡ None) ⊎ (m.window.stable + WINDOW ≤ m.orderer.ordered)
    by true true d e x = inl x
    by true false d e x = absurd (let y : GREATEST_NUMBER ≤ m.orderer.ordered = grind (arith, nat_tests) in omega (arith, y, room))
    by false c d e x = inr (let y : WINDOW ≤ m.orderer.ordered - m.window.stable = grind (arith, nat_tests) in omega (arith, y))

-- where all that each sent is covered, and the window is not full, all was ordered
pub all-ordered : (sent : Address → ℕ) (m : Coordinator) → first_next m.orderer.queues ≡ None
    → ((q : Address) → stands_in q (senders_of m.orderer.queues) ≡ true → (k : ℕ) → k ≤ sent q → Covered q k m.orderer.queues)
    → EachQueue (λ q n. sent q ≤ n) m.orderer.queues
all-ordered sent m none all q there = by (nat_lt (ordered_of m.orderer.queues q) (sent q)) refl
  where
    by : (b : Bool) → nat_lt (ordered_of m.orderer.queues q) (sent q) ≡ b → sent q ≤ ordered_of m.orderer.queues q
    by true e = absurd (none-covered q m.orderer.queues none (all q there (ordered_of m.orderer.queues q + 1) (let y : ordered_of m.orderer.queues q < sent q = grind (arith, nat_tests) in omega (arith, y))))
    by false e = grind (arith, nat_tests)
