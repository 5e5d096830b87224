-- Which messages of a sender were ordered, or wait to be ordered; how many were ordered in all.
use Rattle.std.proofs.Common.{◌≡◌, ℕ, zero, suc, ◌+◌, ◌*◌, ◌≤◌, Bool, true, false, cond, not, ◌||◌, ◌&&◌, None, Some, List, [], ◌∷◌, length, nat_eq, nat_lt, inl, inr, ◌⊎◌, refl, sym, ap, ◌∙◌, subst, arith}
use Rattle.std.specs.Prelude.{nat_le, slice_get, MatchBool}
use Rattle.std.specs.List.{list_any, find}
use Rattle.std.specs.Option.{option_map}
use Rattle.std.proofs.lemmas.Bool.Decides.{nat_tests}
use Rattle.std.proofs.lemmas.Option.{none-some, same_Some}
use Rattle.address.specs.declared.limits.TheConstants.{OUTSTANDING}
use Rattle.address.specs.Ids.{Address, same_address}
use Rattle.address.proofs.SameIds.{same_address-refl, same_address-true}
use Rattle.view.specs.Members.{stands_in, is_distinct}
use Rattle.wire_values.specs.Values.{Entry}
use Rattle.trace_props.specs.declared.event.Numbered.{Numbered}
use Rattle.sequencer.specs.Queues.{Queue, change_first, without_first, waiting_with, offered, takes, follows, has_next, next_of, entry_with, served, first_next, is_from}
use Rattle.traffic.specs.ViewStates.{ordered_of, senders_of}

-- ---- one queue

abbrev pub has_number : ℕ → Numbered → Bool
has_number n f = nat_eq n f.number

-- a number was ordered, or waits
abbrev pub Covers : ℕ → Queue → Type 0
Covers n u = (n ≤ u.ordered) ⊎ (list_any (has_number n) u.waiting ≡ true)

either : (a : Bool) {c : Bool} → c ≡ true → (a || c) ≡ true
either true e = refl
either false e = e

waits-still : (n : ℕ) (f : Numbered) (ws : List Numbered) → list_any (has_number n) ws ≡ true → list_any (has_number n) (waiting_with f ws) ≡ true
waits-still n f [] e = absurd (let bad : false ≡ true = e in cc)
waits-still n f (g ∷ ws) e = by (nat_lt f.number g.number) (has_number n g) refl e (waits-still n f ws)
  where
    by : (b c : Bool) → has_number n g ≡ c → (c || list_any (has_number n) ws) ≡ true → (list_any (has_number n) ws ≡ true → list_any (has_number n) (waiting_with f ws) ≡ true)
        → list_any (has_number n) (cond b (f ∷ g ∷ ws) (g ∷ waiting_with f ws)) ≡ true
    by true c is x later = either (has_number n f) (rw is x)
    by false true is x later = rw is refl
    by false false is x later = rw is (later x)

itself : (n : ℕ) (f : Numbered) → f.number ≡ n → has_number n f ≡ true
itself n f e = grind (arith, nat_tests)

waits-new : (n : ℕ) (f : Numbered) (ws : List Numbered) → f.number ≡ n → list_any (has_number n) (waiting_with f ws) ≡ true
waits-new n f [] e = rw (itself n f e) refl
waits-new n f (g ∷ ws) e = by (nat_lt f.number g.number) (waits-new n f ws e)
  where
    by : (b : Bool) → list_any (has_number n) (waiting_with f ws) ≡ true → list_any (has_number n) (cond b (f ∷ g ∷ ws) (g ∷ waiting_with f ws)) ≡ true
    by true later = rw (itself n f e) refl
    by false later = either (has_number n g) later

-- a message that is offered leaves it so
offered-covers : (n m : ℕ) (x : List ℕ) (u : Queue) → Covers n u → Covers n (offered m x u)
offered-covers n m x u c = by (takes m u) c
  where
    by : (b : Bool) → Covers n u → Covers n (cond b (record { sender = u.sender; ordered = u.ordered; waiting = waiting_with (record { number = m; payload = x }) u.waiting }) u)
    by true (inl l) = inl l
    by true (inr w) = inr (waits-still n (record { number = m; payload = x }) u.waiting w)
    by false c = c

-- and is covered, if it is near
offered-covered : (n : ℕ) (x : List ℕ) (u : Queue) → n ≤ u.ordered + OUTSTANDING → Covers n (offered n x u)
offered-covered n x u near = by (nat_lt u.ordered n) (list_any (has_number n) u.waiting) refl refl
  where
    by : (a w : Bool) → nat_lt u.ordered n ≡ a → list_any (has_number n) u.waiting ≡ w → Covers n (offered n x u)
    by false w e d = offered-covers n n x u (inl (grind (arith, nat_tests)))
    by a true e d = offered-covers n n x u (inr d)
    by true false e d =
        let c : nat_le n (u.ordered + OUTSTANDING) ≡ true = grind (arith, nat_tests) in
        let t : takes n u ≡ true = rw (e, c, d) refl in
        rw t (inr (waits-new n (record { number = n; payload = x }) u.waiting refl))

left-waits : (n k : ℕ) (u : Queue) (ws : List Numbered) → list_any (has_number n) ws ≡ true → (n ≤ u.ordered + 1) ⊎ (list_any (has_number n) (without_first (follows u) ws) ≡ true)
left-waits n k u [] e = absurd (let bad : false ≡ true = e in cc)
left-waits n k u (g ∷ ws) e = by (follows u g) (has_number n g) refl refl e (left-waits n k u ws)
  where
    rest : (n ≤ u.ordered + 1) ⊎ (list_any (has_number n) (without_first (follows u) ws) ≡ true) → (n ≤ u.ordered + 1) ⊎ (list_any (has_number n) (g ∷ without_first (follows u) ws) ≡ true)
    rest (inl l) = inl l
    rest (inr y) = inr (either (has_number n g) y)

    by : (b c : Bool) → follows u g ≡ b → has_number n g ≡ c → (c || list_any (has_number n) ws) ≡ true
        → (list_any (has_number n) ws ≡ true → (n ≤ u.ordered + 1) ⊎ (list_any (has_number n) (without_first (follows u) ws) ≡ true))
        → (n ≤ u.ordered + 1) ⊎ (list_any (has_number n) (cond b ws (g ∷ without_first (follows u) ws)) ≡ true)
    by true true d is x later = inl (grind (arith, nat_tests))
    by true false d is x later = inr x
    by false true d is x later = inr (ap (λ (z : Bool). z || list_any (has_number n) (without_first (follows u) ws)) is)
    by false false d is x later = rest (later x)

-- a message that is served leaves it so
served-covers : (n : ℕ) (u : Queue) → Covers n u → Covers n (served u)
served-covers n u (inl l) = inl (omega (arith, l))
served-covers n u (inr w) = left-waits n 0 u u.waiting w

-- ---- the queues

-- so of an address' queue
abbrev pub Covered : Address → ℕ → List Queue → Type 0
Covered q n [] = ⊥
Covered q n (u ∷ queues) = MatchBool (same_address q u.sender) (Covers n u) (Covered q n queues)

sender-offered : (m : ℕ) (x : List ℕ) (u : Queue) → (offered m x u).sender ≡ u.sender
sender-offered m x u = by (takes m u)
  where
    by : (b : Bool) → (cond b (record { sender = u.sender; ordered = u.ordered; waiting = waiting_with (record { number = m; payload = x }) u.waiting }) u).sender ≡ u.sender
    by true = refl
    by false = refl

ordered-offered : (m : ℕ) (x : List ℕ) (u : Queue) → (offered m x u).ordered ≡ u.ordered
ordered-offered m x u = by (takes m u)
  where
    by : (b : Bool) → (cond b (record { sender = u.sender; ordered = u.ordered; waiting = waiting_with (record { number = m; payload = x }) u.waiting }) u).ordered ≡ u.ordered
    by true = refl
    by false = refl

-- where the queue goes on so, and the rest does
both-on : (d : Bool) (A B C D : Type 0) → (A → B) → (C → D) → MatchBool d A C → MatchBool d B D
both-on true A B C D f g x = f x
both-on false A B C D f g x = g x

pub covered-offered : (q p : Address) (n m : ℕ) (x : List ℕ) (queues : List Queue) → Covered q n queues → Covered q n (change_first (is_from p) (offered m x) queues)
covered-offered q p n m x [] c = c
covered-offered q p n m x (u ∷ queues) c = by (same_address p u.sender) (covered-offered q p n m x queues)
  where
    by : (b : Bool) → (Covered q n queues → Covered q n (change_first (is_from p) (offered m x) queues)) → Covered q n (cond b (offered m x u ∷ queues) (u ∷ change_first (is_from p) (offered m x) queues))
    by true later = subst (λ (s : Address). MatchBool (same_address q s) (Covers n (offered m x u)) (Covered q n queues)) (sym (sender-offered m x u))
        (both-on (same_address q u.sender) _ _ _ _ (offered-covers n m x u) (λ z. z) c)
    by false later = both-on (same_address q u.sender) _ _ _ _ (λ z. z) later c

pub covered-served : (q : Address) (n : ℕ) (queues : List Queue) → Covered q n queues → Covered q n (change_first has_next served queues)
covered-served q n [] c = c
covered-served q n (u ∷ queues) c = by (has_next u) (covered-served q n queues)
  where
    by : (b : Bool) → (Covered q n queues → Covered q n (change_first has_next served queues)) → Covered q n (cond b (served u ∷ queues) (u ∷ change_first has_next served queues))
    by true later = both-on (same_address q u.sender) _ _ _ _ (served-covers n u) (λ z. z) c
    by false later = both-on (same_address q u.sender) _ _ _ _ (λ z. z) later c

-- what was ordered is covered
pub low-covered : (q : Address) (n : ℕ) (queues : List Queue) → stands_in q (senders_of queues) ≡ true → n ≤ ordered_of queues q → Covered q n queues
low-covered q n [] there low = absurd (let bad : false ≡ true = there in cc)
low-covered q n (u ∷ queues) there low = by (same_address q u.sender) there low (low-covered q n queues)
  where
    by : (b : Bool) → (b || stands_in q (senders_of queues)) ≡ true → n ≤ cond b u.ordered (ordered_of queues q) → (stands_in q (senders_of queues) ≡ true → n ≤ ordered_of queues q → Covered q n queues)
        → MatchBool b (Covers n u) (Covered q n queues)
    by true there low later = inl low
    by false there low later = later there low

-- what is offered and near is covered
pub offered-is : (q : Address) (n : ℕ) (x : List ℕ) (queues : List Queue) → stands_in q (senders_of queues) ≡ true → n ≤ ordered_of queues q + OUTSTANDING
    → Covered q n (change_first (is_from q) (offered n x) queues)
offered-is q n x [] there near = absurd (let bad : false ≡ true = there in cc)
offered-is q n x (u ∷ queues) there near = by (same_address q u.sender) refl there near (offered-is q n x queues)
  where
    by : (b : Bool) → same_address q u.sender ≡ b → (b || stands_in q (senders_of queues)) ≡ true → n ≤ cond b u.ordered (ordered_of queues q) + OUTSTANDING
        → (stands_in q (senders_of queues) ≡ true → n ≤ ordered_of queues q + OUTSTANDING → Covered q n (change_first (is_from q) (offered n x) queues))
        → Covered q n (cond b (offered n x u ∷ queues) (u ∷ change_first (is_from q) (offered n x) queues))
    by true e there near later =
        subst (λ (s : Address). MatchBool (same_address q s) (Covers n (offered n x u)) (Covered q n queues)) (sym (sender-offered n x u)) (rw e (offered-covered n x u near))
    by false e there near later = rw e (later there near)

-- where what comes next was ordered or waits, it waits, and so a next message is there
waits-next : (u : Queue) → Covers (u.ordered + 1) u → has_next u ≡ true
waits-next u (inl l) = absurd (omega (arith, l))
waits-next u (inr w) = w

finds : (u : Queue) (ws : List Numbered) → list_any (follows u) ws ≡ true → option_map (entry_with u) (find (follows u) ws) ≡ None → ⊥
finds u [] a none = let bad : false ≡ true = a in cc
finds u (g ∷ ws) a none = by (follows u g) a none (finds u ws)
  where
    by : (b : Bool) → (b || list_any (follows u) ws) ≡ true → option_map (entry_with u) (cond b (Some g) (find (follows u) ws)) ≡ None
        → (list_any (follows u) ws ≡ true → option_map (entry_with u) (find (follows u) ws) ≡ None → ⊥) → ⊥
    by true x y later = none-some (entry_with u g) (sym y)
    by false x y later = later x y

-- nothing may be ordered next: then no address' next number is covered
pub none-covered : (q : Address) (queues : List Queue) → first_next queues ≡ None → Covered q (ordered_of queues q + 1) queues → ⊥
none-covered q [] none c = c
none-covered q (u ∷ queues) none c = by (has_next u) (same_address q u.sender) refl none c (none-covered q queues)
  where
    by : (b d : Bool) → has_next u ≡ b → cond b (next_of u) (first_next queues) ≡ None
        → MatchBool d (Covers (cond d u.ordered (ordered_of queues q) + 1) u) (Covered q (cond d u.ordered (ordered_of queues q) + 1) queues)
        → (first_next queues ≡ None → Covered q (ordered_of queues q + 1) queues → ⊥) → ⊥
    by true d e none c later = finds u u.waiting e none
    by false true e none c later = let bad : false ≡ true = sym e ∙ waits-next u c in cc
    by false false e none c later = later none c

-- ---- how many were ordered

abbrev pub all_ordered : List Queue → ℕ
all_ordered [] = 0
all_ordered (u ∷ queues) = u.ordered + all_ordered queues

pub one-ordered-more : (queues : List Queue) (e : Entry) → first_next queues ≡ Some e → all_ordered (change_first has_next served queues) ≡ all_ordered queues + 1
one-ordered-more [] e h = absurd (none-some e h)
one-ordered-more (u ∷ queues) e h = by (has_next u) h (one-ordered-more queues e)
  where
    by : (b : Bool) → cond b (next_of u) (first_next queues) ≡ Some e → (first_next queues ≡ Some e → all_ordered (change_first has_next served queues) ≡ all_ordered queues + 1)
        → all_ordered (cond b (served u ∷ queues) (u ∷ change_first has_next served queues)) ≡ u.ordered + all_ordered queues + 1
    by true x later = omega arith
    by false x later = let y = later x in omega (arith, y)

pub offered-ordered : (p : Address) (n : ℕ) (x : List ℕ) (queues : List Queue) → all_ordered (change_first (is_from p) (offered n x) queues) ≡ all_ordered queues
offered-ordered p n x [] = refl
offered-ordered p n x (u ∷ queues) = by (same_address p u.sender) (offered-ordered p n x queues)
  where
    by : (b : Bool) → all_ordered (change_first (is_from p) (offered n x) queues) ≡ all_ordered queues
        → all_ordered (cond b (offered n x u ∷ queues) (u ∷ change_first (is_from p) (offered n x) queues)) ≡ u.ordered + all_ordered queues
    by true later = let z = ordered-offered n x u in omega (arith, z)
    by false later = omega (arith, later)

-- ---- against how many were sent

abbrev pub total : (Address → ℕ) → List Address → ℕ
total sent [] = 0
total sent (p ∷ ps) = sent p + total sent ps

-- of each whose queue it is
abbrev pub EachQueue : (Address → ℕ → Type 0) → List Queue → Type 0
EachQueue P queues = (q : Address) → stands_in q (senders_of queues) ≡ true → P q (ordered_of queues q)

first-of : (P : Address → ℕ → Type 0) (u : Queue) (queues : List Queue) → EachQueue P (u ∷ queues) → P u.sender u.ordered
first-of P u queues each =
    let itself = same_address-refl u.sender in
    subst (λ (b : Bool). P u.sender (cond b u.ordered (ordered_of queues u.sender))) itself (each u.sender (ap (λ (b : Bool). b || stands_in u.sender (senders_of queues)) itself))

rest-of : (P : Address → ℕ → Type 0) (u : Queue) (queues : List Queue) → stands_in u.sender (senders_of queues) ≡ false → EachQueue P (u ∷ queues) → EachQueue P queues
rest-of P u queues apart each q there = by (same_address q u.sender) refl (each q (either (same_address q u.sender) there))
  where
    by : (b : Bool) → same_address q u.sender ≡ b → P q (cond b u.ordered (ordered_of queues q)) → P q (ordered_of queues q)
    by true e x = absurd (let bad : true ≡ false = sym there ∙ ap (λ (r : Address). stands_in r (senders_of queues)) (same_address-true q u.sender e) ∙ apart in cc)
    by false e x = x

pub rest-distinct : (b c : Bool) → (not b && c) ≡ true → (b ≡ false) × (c ≡ true)
rest-distinct true c h = absurd (let bad : false ≡ true = h in cc)
rest-distinct false c h = (refl, h)

pub at-most : (sent : Address → ℕ) (queues : List Queue) → is_distinct (senders_of queues) ≡ true → EachQueue (λ q n. n ≤ sent q) queues → all_ordered queues ≤ total sent (senders_of queues)
at-most sent [] d each = omega arith
at-most sent (u ∷ queues) d each =
    let r = rest-distinct (stands_in u.sender (senders_of queues)) (is_distinct (senders_of queues)) d in
    let a = first-of (λ q n. n ≤ sent q) u queues each in
    let b = at-most sent queues r.1 (rest-of (λ q n. n ≤ sent q) u queues r.0 each) in
    omega (arith, a, b)

pub at-least : (sent : Address → ℕ) (queues : List Queue) → is_distinct (senders_of queues) ≡ true → EachQueue (λ q n. sent q ≤ n + OUTSTANDING) queues
    → total sent (senders_of queues) ≤ all_ordered queues + OUTSTANDING * length (senders_of queues)
at-least sent [] d each = omega arith
at-least sent (u ∷ queues) d each =
    let r = rest-distinct (stands_in u.sender (senders_of queues)) (is_distinct (senders_of queues)) d in
    let a = first-of (λ q n. sent q ≤ n + OUTSTANDING) u queues each in
    let b = at-least sent queues r.1 (rest-of (λ q n. sent q ≤ n + OUTSTANDING) u queues r.0 each) in
    omega (arith, a, b)

-- where as many were ordered as were sent, all of each were
pub all-of : (sent : Address → ℕ) (queues : List Queue) → is_distinct (senders_of queues) ≡ true → EachQueue (λ q n. n ≤ sent q) queues → total sent (senders_of queues) ≤ all_ordered queues
    → EachQueue (λ q n. sent q ≤ n) queues
all-of sent [] d each all q there = absurd (let bad : false ≡ true = there in cc)
all-of sent (u ∷ queues) d each all q there =
    let r = rest-distinct (stands_in u.sender (senders_of queues)) (is_distinct (senders_of queues)) d in
    let a = first-of (λ q n. n ≤ sent q) u queues each in
    let rest = rest-of (λ q n. n ≤ sent q) u queues r.0 each in
    let b = at-most sent queues r.1 rest in
    by (same_address q u.sender) refl there (omega (arith, all, b)) (all-of sent queues r.1 rest (omega (arith, all, a)))
  where
    by : (b : Bool) → same_address q u.sender ≡ b → (b || stands_in q (senders_of queues)) ≡ true → sent u.sender ≤ u.ordered → EachQueue (λ q n. sent q ≤ n) queues
        → sent q ≤ cond b u.ordered (ordered_of queues q)
    by true e there here later = subst (λ (r : Address). sent r ≤ u.ordered) (sym (same_address-true q u.sender e)) here
    by false e there here later = later q there

-- where all of each were ordered, so many were in all
pub all-total : (sent : Address → ℕ) (queues : List Queue) → is_distinct (senders_of queues) ≡ true → EachQueue (λ q n. sent q ≤ n) queues → total sent (senders_of queues) ≤ all_ordered queues
all-total sent [] d each = omega arith
all-total sent (u ∷ queues) d each =
    let r = rest-distinct (stands_in u.sender (senders_of queues)) (is_distinct (senders_of queues)) d in
    let a = first-of (λ q n. sent q ≤ n) u queues each in
    let b = all-total sent queues r.1 (rest-of (λ q n. sent q ≤ n) u queues r.0 each) in
    omega (arith, a, b)

-- what an address' queue covers
pub find-covers : (q : Address) (n : ℕ) (queues : List Queue) (u : Queue) → find (is_from q) queues ≡ Some u → Covers n u → Covered q n queues
find-covers q n [] u e c = absurd (none-some u e)
find-covers q n (v ∷ queues) u e c = by (same_address q v.sender) e (find-covers q n queues u)
  where
    by : (b : Bool) → cond b (Some v) (find (is_from q) queues) ≡ Some u → (find (is_from q) queues ≡ Some u → Covers n u → Covered q n queues) → MatchBool b (Covers n v) (Covered q n queues)
    by true e later = subst (Covers n) (sym (same_Some v u e)) c
    by false e later = later e c

-- a message that waits has its number there
pub waits-at : (n : ℕ) (ws : List Numbered) (j : ℕ) (f : Numbered) → slice_get ws j ≡ Some f → f.number ≡ n → list_any (has_number n) ws ≡ true
waits-at n [] j f at e = absurd (none-some f at)
waits-at n (g ∷ ws) zero f at e = rw (itself n g (ap (λ (z : Numbered). z.number) (same_Some g f at) ∙ e)) refl
waits-at n (g ∷ ws) (suc j) f at e = either (has_number n g) (waits-at n ws j f at e)
