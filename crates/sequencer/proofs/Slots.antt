-- What waits in a sender's slots, as they are filled and the first is taken.
use Rattle.std.proofs.Common.{◌≡◌, ℕ, zero, suc, ◌+◌, ◌-◌, ◌<◌, ◌≤◌, Bool, ◌||◌, true, false, cond, List, [], ◌∷◌, ◌++◌, Option, Some, None, length, drop, refl, sym, ap, ◌∙◌, subst, arith, get_or, length-append, length-drop, length-set}
use Rattle.std.specs.Prelude.{slice_get, slice_set, nat_eq, nat_lt, is_some, if◌then◌else◌}
use Rattle.std.specs.List.{list_any, find, AllByRecursion}
use Rattle.std.specs.Option.{option_map}
use Rattle.std.proofs.lemmas.Bool.Decides.{nat_tests}
use Rattle.std.proofs.lemmas.Option.{slice_get-get_or}
use Rattle.circular_buffer.specs.Buffer.{Buffer, buffer, keep_last}
use Rattle.address.specs.declared.limits.TheConstants.{OUTSTANDING, GREATEST_NUMBER}
use Rattle.address.specs.Ids.{Address}
use Rattle.trace_props.specs.declared.event.Numbered.{Numbered}
use Rattle.sequencer.specs.Queues.{Queue, takes, offered, waiting_with, without_first, follows, has_next, entry_with, next_of, served}
use Rattle.sequencer.specs.Slots.{numbered, is_first, IsRing}

-- ---- what waits under a number

-- nothing waits under a number before the slots
pub waits-before : (b n : ℕ) (slots : List (Option (List ℕ))) → n ≤ b → list_any (λ f. nat_eq n f.number) (numbered b slots) ≡ false
waits-before b n [] le = refl
waits-before b n (None ∷ slots) le = waits-before (suc b) n slots (omega arith)
waits-before b n (Some x ∷ slots) le =
    let q : nat_eq n (suc b) ≡ false = grind (arith, nat_tests) in
    ap (λ t. t || list_any (λ f. nat_eq n f.number) (numbered (suc b) slots)) q ∙ waits-before (suc b) n slots (omega arith)

-- a message waits under a slot's number where a payload stands in the slot
pub waits-in : (b n i : ℕ) (slots : List (Option (List ℕ))) (o : Option (List ℕ)) → n ≡ b + 1 + i → slice_get slots i ≡ Some o
    → list_any (λ f. nat_eq n f.number) (numbered b slots) ≡ is_some o
waits-in b n i [] o k at = cc
waits-in b n zero (None ∷ slots) o k at = let e : None ≡ o = cc in waits-before (suc b) n slots (omega arith) ∙ ap is_some e
waits-in b n zero (Some x ∷ slots) o k at =
    let e : Some x ≡ o = cc in
    let q : nat_eq n (suc b) ≡ true = grind (arith, nat_tests) in
    ap (λ t. t || list_any (λ f. nat_eq n f.number) (numbered (suc b) slots)) q ∙ ap is_some e
waits-in b n (suc i) (None ∷ slots) o k at = waits-in (suc b) n i slots o (omega arith) at
waits-in b n (suc i) (Some x ∷ slots) o k at =
    let q : nat_eq n (suc b) ≡ false = grind (arith, nat_tests) in
    ap (λ t. t || list_any (λ f. nat_eq n f.number) (numbered (suc b) slots)) q ∙ waits-in (suc b) n i slots o (omega arith) at

-- nothing waits past the slots
pub waits-past : (b n i : ℕ) (slots : List (Option (List ℕ))) → n ≡ b + 1 + i → slice_get slots i ≡ None → list_any (λ f. nat_eq n f.number) (numbered b slots) ≡ false
waits-past b n i [] k at = refl
waits-past b n zero (x ∷ slots) k at = cc
waits-past b n (suc i) (None ∷ slots) k at = waits-past (suc b) n i slots (omega arith) at
waits-past b n (suc i) (Some x ∷ slots) k at =
    let q : nat_eq n (suc b) ≡ false = grind (arith, nat_tests) in
    ap (λ t. t || list_any (λ f. nat_eq n f.number) (numbered (suc b) slots)) q ∙ waits-past (suc b) n i slots (omega arith) at

-- ---- empty slots

-- an empty slot at the back holds nothing
none-more : (b : ℕ) (slots : List (Option (List ℕ))) → numbered b (slots ++ None ∷ []) ≡ numbered b slots
none-more b [] = refl
none-more b (None ∷ slots) = none-more (suc b) slots
none-more b (Some x ∷ slots) = ap (λ (ws : List Numbered). record { number = suc b; payload = x } ∷ ws) (none-more (suc b) slots)

all-kept : {X : Type 0} (n : ℕ) (xs : List X) → length xs ≤ n → keep_last n xs ≡ xs
all-kept n xs le = let z : length xs - n ≡ 0 = omega arith in ap (λ k. drop k xs) z

-- one more, while they are made
pub one-pushed : (n : ℕ) (slots next : Buffer (Option (List ℕ))) → numbered 0 slots.items ≡ [] → length slots.items ≡ n → n < slots.capacity
    → next ≡ buffer (keep_last slots.capacity (slots.items ++ None ∷ [])) slots.capacity → (numbered 0 next.items ≡ []) × (length next.items ≡ n + 1)
one-pushed n slots next none many le q =
    let long : length (slots.items ++ None ∷ []) ≡ n + 1 = simp length-append (omega (arith, many)) in
    let items : next.items ≡ slots.items ++ None ∷ [] =
    ap (λ z. z.items) q ∙ all-kept slots.capacity (slots.items ++ None ∷ []) (omega (arith, long, le)) in
    (ap (numbered 0) items ∙ none-more 0 slots.items ∙ none, ap length items ∙ long)

-- ---- a message is taken

-- one with a number before the slots comes first
first-with : (b : ℕ) (f : Numbered) (slots : List (Option (List ℕ))) → f.number ≤ b → waiting_with f (numbered b slots) ≡ f ∷ numbered b slots
first-with b f [] le = refl
first-with b f (None ∷ slots) le = first-with (suc b) f slots (omega arith)
first-with b f (Some x ∷ slots) le =
    let g : Numbered = record { number = suc b; payload = x } in
    let q : nat_lt f.number (suc b) ≡ true = grind (arith, nat_tests) in
    ap (λ t. if t then f ∷ g ∷ numbered (suc b) slots else g ∷ waiting_with f (numbered (suc b) slots)) q

-- a slot that was empty is filled
pub slot-filled : (b i : ℕ) (f : Numbered) (slots : List (Option (List ℕ))) → f.number ≡ b + 1 + i → slice_get slots i ≡ Some None
    → numbered b (slice_set slots i (Some f.payload)) ≡ waiting_with f (numbered b slots)
slot-filled b i f [] n at = cc
slot-filled b zero f (None ∷ slots) n at =
    let m : suc b ≡ f.number = omega arith in
    ap (λ (k : ℕ). record { number = k; payload = f.payload } ∷ numbered (suc b) slots) m ∙ sym (first-with (suc b) f slots (omega arith))
slot-filled b zero f (Some x ∷ slots) n at = cc
slot-filled b (suc i) f (None ∷ slots) n at = slot-filled (suc b) i f slots (omega arith) at
slot-filled b (suc i) f (Some x ∷ slots) n at =
    let g : Numbered = record { number = suc b; payload = x } in
    let q : nat_lt f.number (suc b) ≡ false = grind (arith, nat_tests) in
    ap (λ (ws : List Numbered). g ∷ ws) (slot-filled (suc b) i f slots (omega arith) at)
    ∙ sym (ap (λ t. if t then f ∷ g ∷ numbered (suc b) slots else g ∷ waiting_with f (numbered (suc b) slots)) q)

small-by : (t : Bool) (f g : Numbered) (ws rest : List Numbered) → f.number ≤ GREATEST_NUMBER → AllByRecursion (λ f. f.number ≤ GREATEST_NUMBER) (g ∷ ws)
    → AllByRecursion (λ f. f.number ≤ GREATEST_NUMBER) rest → AllByRecursion (λ f. f.number ≤ GREATEST_NUMBER) (if t then f ∷ g ∷ ws else g ∷ rest)
small-by true f g ws rest le small more = (le, small)
small-by false f g ws rest le small more = (small.0, more)

small-with : (f : Numbered) (ws : List Numbered) → f.number ≤ GREATEST_NUMBER → AllByRecursion (λ f. f.number ≤ GREATEST_NUMBER) ws
    → AllByRecursion (λ f. f.number ≤ GREATEST_NUMBER) (waiting_with f ws)
small-with f [] le small = (le, tt)
small-with f (g ∷ ws) le small = small-by (nat_lt f.number g.number) f g ws (waiting_with f ws) le small (small-with f ws le small.1)

abbrev pub queue_of : Address → ℕ → Buffer (Option (List ℕ)) → Queue
queue_of p ordered slots = record { sender = p; ordered = ordered; waiting = numbered ordered slots.items }

-- a message that is taken, and the slots with it
pub record Filled (p : Address) (ordered : ℕ) (f : Numbered) (slots next : Buffer (Option (List ℕ))) : Type 0 where
  pub taken : takes f.number (queue_of p ordered slots) ≡ true
  pub after : next ≡ buffer (slice_set slots.items (f.number - ordered - 1) (Some f.payload)) slots.capacity

record Taken (ordered : ℕ) (f : Numbered) (slots : Buffer (Option (List ℕ))) : Type 0 where
  past : ordered < f.number
  reach : f.number ≤ ordered + OUTSTANDING
  new : list_any (λ g. nat_eq f.number g.number) (numbered ordered slots.items) ≡ false

taken-is : (p : Address) (ordered : ℕ) (f : Numbered) (slots : Buffer (Option (List ℕ))) → takes f.number (queue_of p ordered slots) ≡ true → Taken ordered f slots
taken-is p ordered f slots t = record { past = grind (arith, nat_tests); reach = grind (arith, nat_tests); new = grind (arith, nat_tests) }

empty-is : (o : Option (List ℕ)) → is_some o ≡ false → o ≡ None
empty-is None q = refl
empty-is (Some x) q = cc

filled-waiting : (p : Address) (ordered : ℕ) (f : Numbered) (slots next : Buffer (Option (List ℕ))) → IsRing ordered slots → Filled p ordered f slots next
    → numbered ordered next.items ≡ waiting_with f (numbered ordered slots.items)
filled-waiting p ordered f slots next r z =
    let t = taken-is p ordered f slots z.taken in
    let i : ℕ = f.number - ordered - 1 in
    let o : Option (List ℕ) = get_or slots.items i None in
    let place : f.number ≡ ordered + 1 + i = omega (arith, t.past) in
    let at : slice_get slots.items i ≡ Some o = slice_get-get_or slots.items i None (omega (arith, t.past, t.reach, r.full.all)) in
    let none : o ≡ None = empty-is o (sym (waits-in ordered f.number i slots.items o place at) ∙ t.new) in
    ap (λ (b : Buffer (Option (List ℕ))). numbered ordered b.items) z.after ∙ slot-filled ordered i f slots.items place (at ∙ ap Some none)

pub filled-ring : (p : Address) (ordered : ℕ) (f : Numbered) (slots next : Buffer (Option (List ℕ))) → IsRing ordered slots → Filled p ordered f slots next → f.number ≤ GREATEST_NUMBER
    → IsRing ordered next
filled-ring p ordered f slots next r z le = record {
  full = record {
    all = ap (λ b. length b.items) z.after ∙ length-set slots.items (f.number - ordered - 1) (Some f.payload) ∙ r.full.all;
    room = ap (λ b. b.capacity) z.after ∙ r.full.room;
  };
  small = subst (λ (ws : List Numbered). AllByRecursion (λ f. f.number ≤ GREATEST_NUMBER) ws) (sym (filled-waiting p ordered f slots next r z)) (small-with f (numbered ordered slots.items) le r.small);
}

pub filled-offered : (p : Address) (ordered : ℕ) (f : Numbered) (slots next : Buffer (Option (List ℕ))) → IsRing ordered slots → Filled p ordered f slots next
    → queue_of p ordered next ≡ offered f.number f.payload (queue_of p ordered slots)
filled-offered p ordered f slots next r z =
    let q : Queue = queue_of p ordered slots in
    let more : Queue = record { sender = p; ordered = ordered; waiting = waiting_with f q.waiting } in
    ap (λ (ws : List Numbered). let q : Queue = record { sender = p; ordered = ordered; waiting = ws } in q) (filled-waiting p ordered f slots next r z) ∙ sym (ap (λ b. if b then more else q) z.taken)

-- ---- the next is taken out

-- whether the next message waits is whether a payload stands in the first slot
pub next-first : (p : Address) (b : ℕ) (slots : Buffer (Option (List ℕ))) → has_next (queue_of p b slots) ≡ is_first slots.items
next-first p b slots = by slots.items
  where
    by : (items : List (Option (List ℕ))) → list_any (λ f. nat_eq (b + 1) f.number) (numbered b items) ≡ is_first items
    by [] = refl
    by (None ∷ items) = waits-before (suc b) (b + 1) items (omega arith)
    by (Some x ∷ items) =
        let q : nat_eq (b + 1) (suc b) ≡ true = grind (arith, nat_tests) in
        ap (λ t. t || list_any (λ f. nat_eq (b + 1) f.number) (numbered (suc b) items)) q

find-before : (b n : ℕ) (slots : List (Option (List ℕ))) → n ≤ b → find (λ f. nat_eq n f.number) (numbered b slots) ≡ None
find-before b n [] le = refl
find-before b n (None ∷ slots) le = find-before (suc b) n slots (omega arith)
find-before b n (Some x ∷ slots) le =
    let q : nat_eq n (suc b) ≡ false = grind (arith, nat_tests) in
    ap (λ t. cond t (Some (let f : Numbered = record { number = suc b; payload = x } in f)) (find (λ f. nat_eq n f.number) (numbered (suc b) slots))) q ∙ find-before (suc b) n slots (omega arith)

next-of-none : (b : ℕ) (q : Queue) (slots : List (Option (List ℕ))) → is_first slots ≡ false → option_map (entry_with q) (find (λ f. nat_eq (b + 1) f.number) (numbered b slots)) ≡ None
next-of-none b q [] none = refl
next-of-none b q (None ∷ slots) none = ap (option_map (entry_with q)) (find-before (suc b) (b + 1) slots (omega arith))
next-of-none b q (Some x ∷ slots) none = cc

-- none comes next where the first slot is empty
pub next-none : (p : Address) (b : ℕ) (slots : Buffer (Option (List ℕ))) → is_first slots.items ≡ false → next_of (queue_of p b slots) ≡ None
next-none p b slots none = next-of-none b (queue_of p b slots) slots.items none

-- the slots, with what stands in the first
record Front (b : ℕ) (x : List ℕ) (slots : List (Option (List ℕ))) (rest : List (Option (List ℕ))) : Type 0 where
  pub waiting : numbered b slots ≡ record { number = b + 1; payload = x } ∷ numbered (b + 1) rest
  pub gone : numbered (b + 1) (drop 1 slots ++ None ∷ []) ≡ numbered (b + 1) rest

front-is : (b : ℕ) (x : List ℕ) (slots : List (Option (List ℕ))) → slice_get slots 0 ≡ Some (Some x) → Front b x slots (drop 1 slots)
front-is b x [] at = cc
front-is b x (None ∷ slots) at = cc
front-is b x (Some y ∷ slots) at =
    let e : y ≡ x = cc in
    let n : suc b ≡ b + 1 = omega arith in record {
      waiting = ap (λ (k : ℕ). record { number = k; payload = y } ∷ numbered k slots) n ∙ ap (λ (z : List ℕ). record { number = b + 1; payload = z } ∷ numbered (b + 1) slots) e;
      gone = none-more (b + 1) slots;
    }

-- a queue whose next message is taken out, and its slots after that
pub record Next (b : ℕ) (x : List ℕ) (slots next : Buffer (Option (List ℕ))) : Type 0 where
  pub at : slice_get slots.items 0 ≡ Some (Some x)
  pub after : next ≡ buffer (drop 1 slots.items ++ None ∷ []) slots.capacity

follows-first : (b : ℕ) → nat_eq (b + 1) (b + 1) ≡ true
follows-first b = grind (arith, nat_tests)

pub next-served : (p : Address) (b : ℕ) (x : List ℕ) (slots next : Buffer (Option (List ℕ))) → Next b x slots next → queue_of p (b + 1) next ≡ served (queue_of p b slots)
next-served p b x slots next z =
    let q : Queue = queue_of p b slots in
    let f : Numbered = record { number = b + 1; payload = x } in
    let rest : List Numbered = numbered (b + 1) (drop 1 slots.items) in
    let front = front-is b x slots.items z.at in
    let left : numbered (b + 1) next.items ≡ rest = ap (λ (s : Buffer (Option (List ℕ))). numbered (b + 1) s.items) z.after ∙ front.gone in
    let gone : without_first (follows q) q.waiting ≡ rest =
    ap (without_first (follows q)) front.waiting ∙ ap (λ t. if t then rest else f ∷ without_first (follows q) rest) (follows-first b) in
    ap (λ (ws : List Numbered). let r : Queue = record { sender = p; ordered = b + 1; waiting = ws } in r) (left ∙ sym gone)

next-small : (b : ℕ) (x : List ℕ) (slots next : Buffer (Option (List ℕ))) → IsRing b slots → slice_get slots.items 0 ≡ Some (Some x)
    → (b + 1 ≤ GREATEST_NUMBER) × AllByRecursion (λ f. f.number ≤ GREATEST_NUMBER) (numbered (b + 1) (drop 1 slots.items))
next-small b x slots next r at = subst (λ (ws : List Numbered). AllByRecursion (λ f. f.number ≤ GREATEST_NUMBER) ws) (front-is b x slots.items at).waiting r.small

pub next-ring : (b : ℕ) (x : List ℕ) (slots next : Buffer (Option (List ℕ))) → IsRing b slots → Next b x slots next → IsRing (b + 1) next
next-ring b x slots next r z =
    let front = front-is b x slots.items z.at in
    let long : length (drop 1 slots.items ++ None ∷ []) ≡ OUTSTANDING = simp (length-append, length-drop) (omega (arith, r.full.all)) in
    record {
      full = record { all = ap (λ s. length s.items) z.after ∙ long; room = ap (λ s. s.capacity) z.after ∙ r.full.room };
      small = subst (λ (ws : List Numbered). AllByRecursion (λ f. f.number ≤ GREATEST_NUMBER) ws)
          (sym (ap (λ (s : Buffer (Option (List ℕ))). numbered (b + 1) s.items) z.after ∙ front.gone)) (next-small b x slots next r z.at).1;
    }

-- the next message's number is one that there is
pub first-small : (b : ℕ) (slots : Buffer (Option (List ℕ))) → IsRing b slots → is_first slots.items ≡ true → b + 1 ≤ GREATEST_NUMBER
first-small b slots r first = by slots.items first r.small
  where
    by : (items : List (Option (List ℕ))) → is_first items ≡ true → AllByRecursion (λ f. f.number ≤ GREATEST_NUMBER) (numbered b items) → b + 1 ≤ GREATEST_NUMBER
    by [] q small = cc
    by (None ∷ items) q small = cc
    by (Some x ∷ items) q small = omega (arith, small.0)
