-- A message is offered to be ordered.
use Rattle.std.proofs.Common.{◌≡◌, ℕ, ◌<◌, Bool, ◌||◌, true, false, cond, Some, List, [], ◌∷◌, ◌++◌, map, suc, refl, sym, ap, subst, arith, append_assoc}
use Rattle.std.specs.Prelude.{if◌then◌else◌, nat_lt}
use Rattle.std.specs.List.{find, Contains}
use Rattle.std.specs.Option.{option_map_or}
use Rattle.std.proofs.lemmas.Bool.Decides.{nat_tests}
use Rattle.std.proofs.lemmas.Bool.{cond-true, cond-false}
use Rattle.address.specs.Ids.{Address, same_address}
use Rattle.view.specs.Members.{stands_in}
use Rattle.wire_values.specs.Values.{Entry}
use Rattle.address.proofs.SameIds.{same_address-true}
use Rattle.trace_props.specs.declared.event.Numbered.{Numbered}
use Rattle.sequencer.specs.Queues.{Queue, change_first, entry_with, is_from, takes, offered, waiting_with}
use Rattle.law_acts.proofs.Lists.{slice_get-one}
use Rattle.traffic.specs.ViewStates.{waiting_in, waiting_of, ordered_of, senders_of}
use Rattle.traffic.proofs.QueuesServe.{In, in-itself, in-left, in-right, in-both}

abbrev pub entry_from : Address → ℕ → List ℕ → Entry
entry_from p n x = record { sender = p; number = n; payload = x }

abbrev pub is_wanted : Address → ℕ → List Queue → Bool
is_wanted p n queues = option_map_or (takes n) (find (is_from p) queues) false

pub record Offered (queues : List Queue) (e : Entry) (later : List Queue) : Type 0 where
  pub new : ordered_of queues e.sender < e.number
  pub fewer : In (waiting_of later) (waiting_of queues ++ e ∷ [])
  pub counts : (p : Address) → ordered_of later p ≡ ordered_of queues p
  pub senders : senders_of later ≡ senders_of queues
  pub stands : stands_in e.sender (senders_of queues) ≡ true

-- a queue with a message more
abbrev pub queue_with : Numbered → Queue → Queue
queue_with f q = record { sender = q.sender; ordered = q.ordered; waiting = waiting_with f q.waiting }

taken-queue : (q : Queue) (n : ℕ) (x : List ℕ) → takes n q ≡ true → offered n x q ≡ queue_with (record { number = n; payload = x }) q
taken-queue q n x t = cond-true (takes n q) (queue_with (record { number = n; payload = x }) q) q t

with-by : {X : Type 0} (b : Bool) (h : Numbered → X) (f g : Numbered) (fs rest : List Numbered) (all : List X) → In (h f ∷ h g ∷ map h fs) all → In (h g ∷ map h rest) all
    → In (map h (if b then f ∷ g ∷ fs else g ∷ rest)) all
with-by true h f g fs rest all before after = before
with-by false h f g fs rest all before after = after

-- what waits with a message more is that message, or waited before
with-in : {X : Type 0} (h : Numbered → X) (f : Numbered) (fs : List Numbered) (all : List X) → In (map h fs) all → In (h f ∷ []) all → In (map h (waiting_with f fs)) all
with-in h f [] all old new = new
with-in h f (g ∷ fs) all old new =
    let first : In (h g ∷ []) all = record { each = slice_get-one (Contains all) (h g) (old.each 0 (h g) refl) } in
    let rest : In (map h fs) all = record { each = λ k x at. old.each (suc k) x at } in
    with-by (nat_lt f.number g.number) h f g fs (waiting_with f fs) all (in-both (h f ∷ []) (h g ∷ map h fs) all new old)
    (in-both (h g ∷ []) (map h (waiting_with f fs)) all first (with-in h f fs all rest new))

pub offered-by : (b : Bool) (p : Address) (n : ℕ) (x : List ℕ) (q : Queue) (queues : List Queue) → same_address p q.sender ≡ b
    → (is_wanted p n queues ≡ true → Offered queues (entry_from p n x) (change_first (is_from p) (offered n x) queues))
    → option_map_or (takes n) (cond b (Some q) (find (is_from p) queues)) false ≡ true
    → Offered (q ∷ queues) (entry_from p n x) (if b then offered n x q ∷ queues else q ∷ change_first (is_from p) (offered n x) queues)
offered-by true p n x q queues s later h =
    let e = entry_from p n x in
    let f : Numbered = record { number = n; payload = x } in
    let more : Queue = queue_with f q in
    let same : p ≡ q.sender = same_address-true p q.sender s in
    let all = waiting_of (q ∷ queues) ++ e ∷ [] in
    let new : In (entry_with q f ∷ []) all =
    subst (λ (r : Address). In (entry_from r n x ∷ []) all) same (in-right (e ∷ []) (waiting_of (q ∷ queues)) (e ∷ []) (in-itself (e ∷ []))) in
    let here : In (waiting_in more) all =
    with-in (entry_with q) f q.waiting all (in-left (waiting_in q) (waiting_of (q ∷ queues)) (e ∷ []) (in-left (waiting_in q) (waiting_in q) (waiting_of queues) (in-itself (waiting_in q)))) new in
    let rest : In (waiting_of queues) all =
    in-left (waiting_of queues) (waiting_of (q ∷ queues)) (e ∷ []) (in-right (waiting_of queues) (waiting_in q) (waiting_of queues) (in-itself (waiting_of queues))) in
    subst (λ (r : Queue). Offered (q ∷ queues) e (r ∷ queues)) (sym (taken-queue q n x h)) (record {
      new = subst (λ k. k < n) (sym (cond-true (same_address p q.sender) q.ordered (ordered_of queues p) s)) (grind (arith, nat_tests));
      fewer = in-both (waiting_in more) (waiting_of queues) all here rest;
      counts = λ r. refl;
      senders = refl;
      stands = ap (λ (b : Bool). b || stands_in p (senders_of queues)) s;
    })
offered-by false p n x q queues s later h =
    let y = later h in
    let e = entry_from p n x in
    let all = waiting_of (q ∷ queues) ++ e ∷ [] in
    record {
      new = subst (λ k. k < n) (sym (cond-false (same_address p q.sender) q.ordered (ordered_of queues p) s)) y.new;
      fewer = in-both (waiting_in q) (waiting_of (change_first (is_from p) (offered n x) queues)) all
          (in-left (waiting_in q) (waiting_of (q ∷ queues)) (e ∷ []) (in-left (waiting_in q) (waiting_in q) (waiting_of queues) (in-itself (waiting_in q))))
          (subst (λ (w : List Entry). In (waiting_of (change_first (is_from p) (offered n x) queues)) w) (sym (append_assoc (waiting_in q) (waiting_of queues) (e ∷ [])))
          (in-right (waiting_of (change_first (is_from p) (offered n x) queues)) (waiting_in q) (waiting_of queues ++ e ∷ []) y.fewer));
      counts = λ r. ap (λ k. if same_address r q.sender then q.ordered else k) (y.counts r);
      senders = ap (λ ps. q.sender ∷ ps) y.senders;
      stands = by (same_address p q.sender) y.stands;
    }
  where
    by : (b : Bool) {c : Bool} → c ≡ true → (b || c) ≡ true
    by true s = refl
    by false s = s

pub offered-fact : (p : Address) (n : ℕ) (x : List ℕ) (queues : List Queue) → is_wanted p n queues ≡ true → Offered queues (entry_from p n x) (change_first (is_from p) (offered n x) queues)
offered-fact p n x [] h = cc
offered-fact p n x (q ∷ queues) h = offered-by (same_address p q.sender) p n x q queues refl (offered-fact p n x queues) h

-- a message that is not wanted changes nothing
unwanted-by : (b : Bool) (p : Address) (n : ℕ) (x : List ℕ) (q : Queue) (queues : List Queue)
    → (is_wanted p n queues ≡ false → change_first (is_from p) (offered n x) queues ≡ queues)
    → option_map_or (takes n) (cond b (Some q) (find (is_from p) queues)) false ≡ false
    → (if b then offered n x q ∷ queues else q ∷ change_first (is_from p) (offered n x) queues) ≡ q ∷ queues
unwanted-by true p n x q queues later h =
    ap (λ (r : Queue). r ∷ queues) (cond-false (takes n q) (queue_with (record { number = n; payload = x }) q) q h)
unwanted-by false p n x q queues later h = ap (λ (rs : List Queue). q ∷ rs) (later h)

pub unwanted-fact : (p : Address) (n : ℕ) (x : List ℕ) (queues : List Queue) → is_wanted p n queues ≡ false → change_first (is_from p) (offered n x) queues ≡ queues
unwanted-fact p n x [] h = refl
unwanted-fact p n x (q ∷ queues) h = unwanted-by (same_address p q.sender) p n x q queues (unwanted-fact p n x queues) h
