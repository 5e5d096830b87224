-- What waits in the queues, and what was ordered of each sender, when a message is offered and when one is served.
use Rattle.std.proofs.Common.{◌≡◌, ℕ, ◌+◌, ◌<◌, Bool, ◌||◌, ◌&&◌, true, false, cond, not, Some, List, [], ◌∷◌, ◌++◌, map, refl, sym, ap, ◌∙◌, subst, arith, length, length-append}
use Rattle.std.specs.Prelude.{slice_get, if◌then◌else◌}
use Rattle.std.specs.List.{find, Contains}
use Rattle.std.specs.Option.{option_map}
use Rattle.std.proofs.lemmas.Bool.Decides.{nat_tests}
use Rattle.std.proofs.lemmas.Bool.{cond-true, cond-false}
use Rattle.std.proofs.lemmas.Option.{none-some, same_Some}
use Rattle.std.proofs.lemmas.List.Elements.{Contains-append_left, Contains-append_right}
use Rattle.address.specs.Ids.{Address, same_address}
use Rattle.view.specs.Members.{stands_in, is_distinct}
use Rattle.wire_values.specs.Values.{Entry}
use Rattle.trace_props.specs.declared.event.Numbered.{Numbered}
use Rattle.address.proofs.SameIds.{same_address-refl, same_address-true}
use Rattle.sequencer.specs.Queues.{Queue, change_first, without_first, follows, has_next, next_of, entry_with, served, first_next}
use Rattle.law_acts.specs.Acts.{one_more}
use Rattle.law_acts.proofs.Lists.{slice_get-split, slice_get-one}
use Rattle.traffic.specs.ViewStates.{waiting_in, waiting_of, ordered_of, senders_of}
use Rattle.trace_props.proofs.KeepFourRules.{Contains-at}

-- ---- lists within lists

-- each element of a list is one of another
pub record In {X : Type 0} (xs ys : List X) : Type 0 where
  pub each : (k : ℕ) (x : X) → slice_get xs k ≡ Some x → Contains ys x

pub in-itself : {X : Type 0} (xs : List X) → In xs xs
in-itself xs = record { each = Contains-at xs }

pub in-left : {X : Type 0} (xs ys zs : List X) → In xs ys → In xs (ys ++ zs)
in-left xs ys zs i = record { each = λ k x at. Contains-append_left ys zs x (i.each k x at) }

pub in-right : {X : Type 0} (xs ys zs : List X) → In xs zs → In xs (ys ++ zs)
in-right xs ys zs i = record { each = λ k x at. Contains-append_right ys zs x (i.each k x at) }

pub in-both : {X : Type 0} (xs ys zs : List X) → In xs zs → In ys zs → In (xs ++ ys) zs
in-both xs ys zs i j = record { each = slice_get-split (Contains zs) xs ys i.each j.each }

pub in-one : {X : Type 0} (x : X) (ys : List X) → Contains ys x → In (x ∷ []) ys
in-one x ys c = record { each = slice_get-one (Contains ys) x c }

pub at-first : {X : Type 0} (x : X) (xs : List X) → Contains (x ∷ xs) x
at-first x xs = (0, omega arith, refl)

-- ---- the next message of a queue

record Found (q : Queue) (fs : List Numbered) (e : Entry) : Type 0 where
  pub number : e.number ≡ q.ordered + 1
  pub sender : e.sender ≡ q.sender
  pub among : Contains (map (entry_with q) fs) e
  pub shorter : length (map (entry_with q) (without_first (follows q) fs)) < length (map (entry_with q) fs)

found-by : (b : Bool) (q : Queue) (f : Numbered) (fs : List Numbered) (e : Entry) → follows q f ≡ b
    → (option_map (entry_with q) (find (follows q) fs) ≡ Some e → Found q fs e)
    → option_map (entry_with q) (cond b (Some f) (find (follows q) fs)) ≡ Some e → Found q (f ∷ fs) e
found-by true q f fs e t later h =
    let same : entry_with q f ≡ e = same_Some (entry_with q f) e h in record {
      number = ap (λ (x : Entry). x.number) (sym same) ∙ (let n : f.number ≡ q.ordered + 1 = grind (arith, nat_tests) in n);
      sender = ap (λ (x : Entry). x.sender) (sym same);
      among = subst (λ (x : Entry). Contains (entry_with q f ∷ map (entry_with q) fs) x) same (at-first (entry_with q f) (map (entry_with q) fs));
      shorter = subst (λ (b : Bool). length (map (entry_with q) (if b then fs else f ∷ without_first (follows q) fs)) < length (map (entry_with q) (f ∷ fs))) (sym t) (omega arith);
    }
found-by false q f fs e t later h =
    let x = later h in record {
      number = x.number;
      sender = x.sender;
      among = Contains-append_right (entry_with q f ∷ []) (map (entry_with q) fs) e x.among;
      shorter = subst (λ (b : Bool). length (map (entry_with q) (if b then fs else f ∷ without_first (follows q) fs)) < length (map (entry_with q) (f ∷ fs))) (sym t)
          (let k = x.shorter in omega arith);
    }

found : (q : Queue) (fs : List Numbered) (e : Entry) → option_map (entry_with q) (find (follows q) fs) ≡ Some e → Found q fs e
found q [] e h = absurd (none-some e h)
found q (f ∷ fs) e h = found-by (follows q f) q f fs e refl (found q fs e) h

-- what is left of a list without one
left-by : {X Y : Type 0} (b : Bool) (h : X → Y) (x : X) (xs ys : List X) → In (map h ys) (map h xs) → In (map h (if b then xs else x ∷ ys)) (map h (x ∷ xs))
left-by true h x xs ys i = in-right (map h xs) (h x ∷ []) (map h xs) (in-itself (map h xs))
left-by false h x xs ys i =
    in-both (h x ∷ []) (map h ys) (h x ∷ map h xs) (in-one (h x) (h x ∷ map h xs) (at-first (h x) (map h xs))) (in-right (map h ys) (h x ∷ []) (map h xs) i)

left-in : {X Y : Type 0} (h : X → Y) (test : X → Bool) (xs : List X) → In (map h (without_first test xs)) (map h xs)
left-in h test [] = in-itself []
left-in h test (x ∷ xs) = left-by (test x) h x xs (without_first test xs) (left-in h test xs)

-- ---- one message is served

pub record Served (queues : List Queue) (e : Entry) (later : List Queue) : Type 0 where
  pub waits : Contains (waiting_of queues) e
  pub next : e.number ≡ ordered_of queues e.sender + 1
  pub fewer : In (waiting_of later) (waiting_of queues)
  pub counts : (p : Address) → ordered_of later p ≡ one_more e.sender (ordered_of queues) p
  pub senders : senders_of later ≡ senders_of queues
  pub stands : stands_in e.sender (senders_of queues) ≡ true
  pub shorter : length (waiting_of later) < length (waiting_of queues)

counts-here : (b : Bool) (k n : ℕ) → (if b then k + 1 else n) ≡ (if b then (if b then k else n) + 1 else (if b then k else n))
counts-here true k n = refl
counts-here false k n = refl

-- a count of another sender's
counts-there : (b c : Bool) (k m n : ℕ) → (b ≡ true → c ≡ true → ⊥) → m ≡ (if c then n + 1 else n)
    → (if b then k else m) ≡ (if c then (if b then k else n) + 1 else (if b then k else n))
counts-there true true k m n not_both e = absurd (not_both refl refl)
counts-there true false k m n not_both e = refl
counts-there false c k m n not_both e = e

served-by : (b : Bool) (q : Queue) (queues : List Queue) (e : Entry) → has_next q ≡ b → stands_in q.sender (senders_of queues) ≡ false
    → (first_next queues ≡ Some e → Served queues e (change_first has_next served queues))
    → (if b then next_of q else first_next queues) ≡ Some e
    → Served (q ∷ queues) e (if b then served q ∷ queues else q ∷ change_first has_next served queues)
served-by true q queues e t apart later h =
    let x = found q q.waiting e h in
    let itself : same_address e.sender q.sender ≡ true = ap (λ (p : Address). same_address p q.sender) x.sender ∙ same_address-refl q.sender in
    record {
      waits = Contains-append_left (waiting_in q) (waiting_of queues) e x.among;
      next = x.number ∙ ap (λ n. n + 1) (sym (cond-true (same_address e.sender q.sender) q.ordered (ordered_of queues e.sender) itself));
      fewer = in-both (waiting_in (served q)) (waiting_of queues) (waiting_in q ++ waiting_of queues)
          (in-left (waiting_in (served q)) (waiting_in q) (waiting_of queues) (left-in (entry_with q) (follows q) q.waiting))
          (in-right (waiting_of queues) (waiting_in q) (waiting_of queues) (in-itself (waiting_of queues)));
      counts = λ p. subst (λ (s : Address). (if same_address p q.sender then q.ordered + 1 else ordered_of queues p) ≡ one_more s (ordered_of (q ∷ queues)) p) (sym x.sender)
          (counts-here (same_address p q.sender) q.ordered (ordered_of queues p));
      senders = refl;
      stands = ap (λ (b : Bool). b || stands_in e.sender (senders_of queues)) itself;
      shorter = simp length-append (let k = x.shorter in omega arith);
    }
served-by false q queues e t apart later h =
    let x = later h in
    let other : same_address e.sender q.sender ≡ false = not-same (same_address e.sender q.sender) refl x.stands in
    record {
      waits = Contains-append_right (waiting_in q) (waiting_of queues) e x.waits;
      next = x.next ∙ ap (λ n. n + 1) (sym (cond-false (same_address e.sender q.sender) q.ordered (ordered_of queues e.sender) other));
      fewer = in-both (waiting_in q) (waiting_of (change_first has_next served queues)) (waiting_in q ++ waiting_of queues)
          (in-left (waiting_in q) (waiting_in q) (waiting_of queues) (in-itself (waiting_in q)))
          (in-right (waiting_of (change_first has_next served queues)) (waiting_in q) (waiting_of queues) x.fewer);
      counts = λ p. counts-there (same_address p q.sender) (same_address p e.sender) q.ordered (ordered_of (change_first has_next served queues) p) (ordered_of queues p)
          (λ a b. clash p a b) (x.counts p);
      senders = ap (λ ps. q.sender ∷ ps) x.senders;
      stands = by (same_address e.sender q.sender) x.stands;
      shorter = simp length-append (let k = x.shorter in omega arith);
    }
  where
    not-same : (b : Bool) → same_address e.sender q.sender ≡ b → stands_in e.sender (senders_of queues) ≡ true → b ≡ false
    not-same false s stands = refl
    not-same true s stands =
        let here : stands_in q.sender (senders_of queues) ≡ true = ap (λ (p : Address). stands_in p (senders_of queues)) (sym (same_address-true e.sender q.sender s)) ∙ stands in
        let n : true ≡ false = sym here ∙ apart in n

    clash : (p : Address) → same_address p q.sender ≡ true → same_address p e.sender ≡ true → ⊥
    clash p a b =
        let same : q.sender ≡ e.sender = sym (same_address-true p q.sender a) ∙ same_address-true p e.sender b in
        let other = not-same (same_address e.sender q.sender) refl (later h).stands in
        let n : true ≡ false = sym (ap (λ (r : Address). same_address r q.sender) (sym same) ∙ same_address-refl q.sender) ∙ other in cc

    by : (b : Bool) {c : Bool} → c ≡ true → (b || c) ≡ true
    by true s = refl
    by false s = s

pub rest-distinct : (b c : Bool) → (not b && c) ≡ true → (b ≡ false) × (c ≡ true)
rest-distinct true c h = cc
rest-distinct false c h = (refl, h)

pub served-fact : (queues : List Queue) (e : Entry) → is_distinct (senders_of queues) ≡ true → first_next queues ≡ Some e → Served queues e (change_first has_next served queues)
served-fact [] e d h = absurd (none-some e h)
served-fact (q ∷ queues) e d h =
    let r = rest-distinct (stands_in q.sender (senders_of queues)) (is_distinct (senders_of queues)) d in
    served-by (has_next q) q queues e refl r.0 (served-fact queues e r.1) h
