-- What stands in the slots, as they are filled and let go.
use Rattle.std.proofs.Common.{Less, Greater, get_or, subst, not, ◌≡◌, ℕ, zero, suc, ◌+◌, ◌-◌, ◌<◌, ◌≤◌, true, false, List, [], ◌∷◌, ◌++◌, Option, Some, None, length, drop, refl, sym, ap, ◌∙◌, arith, cond}
use Rattle.std.specs.Prelude.{slice_get, slice_set, nat_eq, nat_lt}
use Rattle.std.specs.Prelude.{is_some}
use Rattle.std.specs.Ordering.{nat_cmp, match_ordering}
use Rattle.std.specs.Map.{keys_of}
use Rattle.std.specs.List.{AllByRecursion}
use Rattle.std.specs.List.Sorted.{IsStrictlySortedBy}
use Rattle.circular_buffer.specs.Buffer.{Buffer, buffer, keep_last}
use Rattle.address.specs.declared.limits.TheConstants.{WINDOW}
use Rattle.std.proofs.lemmas.Bool.Decides.{nat_tests}
use Rattle.std.proofs.lemmas.Option.{slice_get-get_or}
use Rattle.std.proofs.Common.{length-append, length-drop, length-set}
use Rattle.wire_values.specs.Values.{Entry, held_at}
use Rattle.nak_stream.specs.Windows.{WindowModel, IsWindow, empty_window, held_with, held_above, offers, taken}
use Rattle.nak_stream.specs.Rings.{numbered, IsFull, IsRing}
use Rattle.nak_stream.proofs.Windows.{Offered, offered, taken-kept, above-kept, held_at-with}

-- nothing is held at a number before the slots
pub held-before : (b g : ℕ) (slots : List (Option Entry)) → g ≤ b → held_at g (numbered b slots) ≡ None
held-before b g [] le = refl
held-before b g (None ∷ slots) le = held-before (suc b) g slots (omega arith)
held-before b g (Some e ∷ slots) le =
    let q : nat_eq g (suc b) ≡ false = grind (arith, nat_tests) in
    ap (λ t. cond t (Some e) (held_at g (numbered (suc b) slots))) q ∙ held-before (suc b) g slots (omega arith)

-- what is held at a slot's number is what stands in the slot
pub held-in : (b g i : ℕ) (slots : List (Option Entry)) (o : Option Entry) → g ≡ b + 1 + i → slice_get slots i ≡ Some o → held_at g (numbered b slots) ≡ o
held-in b g i [] o n at = cc
held-in b g zero (None ∷ slots) o n at = let e : None ≡ o = cc in held-before (suc b) g slots (omega arith) ∙ e
held-in b g zero (Some x ∷ slots) o n at =
    let e : Some x ≡ o = cc in
    let q : nat_eq g (suc b) ≡ true = grind (arith, nat_tests) in
    ap (λ t. cond t (Some x) (held_at g (numbered (suc b) slots))) q ∙ e
held-in b g (suc i) (None ∷ slots) o n at = held-in (suc b) g i slots o (omega arith) at
held-in b g (suc i) (Some x ∷ slots) o n at =
    let q : nat_eq g (suc b) ≡ false = grind (arith, nat_tests) in
    ap (λ t. cond t (Some x) (held_at g (numbered (suc b) slots))) q ∙ held-in (suc b) g i slots o (omega arith) at

-- nothing is held past the slots
pub held-past : (b g i : ℕ) (slots : List (Option Entry)) → g ≡ b + 1 + i → slice_get slots i ≡ None → held_at g (numbered b slots) ≡ None
held-past b g i [] n at = refl
held-past b g zero (x ∷ slots) n at = cc
held-past b g (suc i) (None ∷ slots) n at = held-past (suc b) g i slots (omega arith) at
held-past b g (suc i) (Some x ∷ slots) n at =
    let q : nat_eq g (suc b) ≡ false = grind (arith, nat_tests) in
    ap (λ t. cond t (Some x) (held_at g (numbered (suc b) slots))) q ∙ held-past (suc b) g i slots (omega arith) at

-- an empty slot more holds nothing more
pub none-more : (b : ℕ) (slots : List (Option Entry)) → numbered b (slots ++ None ∷ []) ≡ numbered b slots
none-more b [] = refl
none-more b (None ∷ slots) = none-more (suc b) slots
none-more b (Some e ∷ slots) = ap (λ h. (suc b, e) ∷ h) (none-more (suc b) slots)

-- all lies above what is no more than the number before the slots
pub all-above : (t b : ℕ) (slots : List (Option Entry)) → t ≤ b → held_above t (numbered b slots) ≡ numbered b slots
all-above t b [] le = refl
all-above t b (None ∷ slots) le = all-above t (suc b) slots (omega arith)
all-above t b (Some e ∷ slots) le =
    let q : nat_lt t (suc b) ≡ true = grind (arith, nat_tests) in
    ap (λ s. cond s ((suc b, e) ∷ held_above t (numbered (suc b) slots)) (held_above t (numbered (suc b) slots))) q
    ∙ ap (λ h. (suc b, e) ∷ h) (all-above t (suc b) slots (omega arith))

-- without the first slot
pub first-gone : (b : ℕ) (slots : List (Option Entry)) → numbered (suc b) (drop 1 slots) ≡ held_above (suc b) (numbered b slots)
first-gone b [] = refl
first-gone b (None ∷ slots) = sym (all-above (suc b) (suc b) slots (omega arith))
first-gone b (Some e ∷ slots) =
    let q : nat_lt (suc b) (suc b) ≡ false = grind (arith, nat_tests) in
    sym (ap (λ s. cond s ((suc b, e) ∷ held_above (suc b) (numbered (suc b) slots)) (held_above (suc b) (numbered (suc b) slots))) q
    ∙ all-above (suc b) (suc b) slots (omega arith))

-- what lies above a number, of what lies above a lower one
pub above-above : (s t : ℕ) (held : List (ℕ × Entry)) → s ≤ t → held_above t (held_above s held) ≡ held_above t held
above-above s t [] le = refl
above-above s t (p ∷ held) le = grind (arith, nat_tests, above-above s t held)

-- an entry with a number before the slots comes first
first-with : (b g : ℕ) (e : Entry) (slots : List (Option Entry)) → g ≤ b → held_with g e (numbered b slots) ≡ (g, e) ∷ numbered b slots
first-with b g e [] le = refl
first-with b g e (None ∷ slots) le = first-with (suc b) g e slots (omega arith)
first-with b g e (Some x ∷ slots) le =
    let q : nat_cmp g (suc b) ≡ Less = grind (arith, nat_tests) in
    ap (λ o. match_ordering o ((g, e) ∷ (suc b, x) ∷ numbered (suc b) slots) ((suc b, e) ∷ numbered (suc b) slots) ((suc b, x) ∷ held_with g e (numbered (suc b) slots))) q

-- a slot that was empty is filled
pub slot-filled : (b g i : ℕ) (e : Entry) (slots : List (Option Entry)) → g ≡ b + 1 + i → slice_get slots i ≡ Some None
    → numbered b (slice_set slots i (Some e)) ≡ held_with g e (numbered b slots)
slot-filled b g i e [] n at = cc
slot-filled b g zero e (None ∷ slots) n at =
    let m : suc b ≡ g = omega arith in
    ap (λ k. (k, e) ∷ numbered (suc b) slots) m ∙ sym (first-with (suc b) g e slots (omega arith))
slot-filled b g zero e (Some x ∷ slots) n at = cc
slot-filled b g (suc i) e (None ∷ slots) n at = slot-filled (suc b) g i e slots (omega arith) at
slot-filled b g (suc i) e (Some x ∷ slots) n at =
    let q : nat_cmp g (suc b) ≡ Greater = grind (arith, nat_tests) in
    ap (λ h. (suc b, x) ∷ h) (slot-filled (suc b) g i e slots (omega arith) at)
    ∙ sym (ap (λ o. match_ordering o ((g, e) ∷ (suc b, x) ∷ numbered (suc b) slots) ((suc b, e) ∷ numbered (suc b) slots) ((suc b, x) ∷ held_with g e (numbered (suc b) slots))) q)

-- the numbers rise
numbers-past : (a b : ℕ) (slots : List (Option Entry)) → a ≤ b → AllByRecursion (λ y. nat_cmp a y ≡ Less) (keys_of (numbered b slots))
numbers-past a b [] le = tt
numbers-past a b (None ∷ slots) le = numbers-past a (suc b) slots (omega arith)
numbers-past a b (Some e ∷ slots) le = (grind (arith, nat_tests), numbers-past a (suc b) slots (omega arith))

pub numbers-rise : (b : ℕ) (slots : List (Option Entry)) → IsStrictlySortedBy nat_cmp (keys_of (numbered b slots))
unfolding IsStrictlySortedBy
numbers-rise b [] = tt
numbers-rise b (None ∷ slots) = numbers-rise (suc b) slots
numbers-rise b (Some e ∷ slots) = (numbers-past (suc b) (suc b) slots (omega arith), numbers-rise (suc b) slots)

-- ---- what is let go

-- slots from which those up to a number went
pub record IsGone (before : ℕ) (old : Buffer (Option Entry)) (to : ℕ) (slots : Buffer (Option Entry)) : Type 0 where
  pub full : IsFull slots
  pub above : numbered to slots.items ≡ held_above to (numbered before old.items)

pub none-gone : (b : ℕ) (slots : Buffer (Option Entry)) → IsFull slots → IsGone b slots b slots
none-gone b slots full = record { full = full; above = sym (all-above b b slots.items (omega arith)) }

all-kept : {X : Type 0} (n : ℕ) (xs : List X) → length xs ≤ n → keep_last n xs ≡ xs
all-kept n xs le = let z : length xs - n ≡ 0 = omega arith in ap (λ k. drop k xs) z

pub one-gone : (b to : ℕ) (old slots popped next : Buffer (Option Entry)) → IsGone b old to slots → b ≤ to
    → popped ≡ buffer (drop 1 slots.items) slots.capacity → next ≡ buffer (keep_last popped.capacity (popped.items ++ None ∷ [])) popped.capacity
    → IsGone b old (to + 1) next
one-gone b to old slots popped next g le p q =
    let front : List (Option Entry) = drop 1 slots.items in
    let shown : popped.items ++ None ∷ [] ≡ front ++ None ∷ [] = ap (λ z. z.items ++ None ∷ []) p in
    let room : popped.capacity ≡ WINDOW = ap (λ z. z.capacity) p ∙ g.full.room in
    let long : length (front ++ None ∷ []) ≡ WINDOW = simp (length-append, length-drop) (omega (arith, g.full.all)) in
    let short : length (popped.items ++ None ∷ []) ≤ popped.capacity = omega (arith, ap length shown, long, room) in
    let items : next.items ≡ front ++ None ∷ [] = ap (λ z. z.items) q ∙ all-kept popped.capacity (popped.items ++ None ∷ []) short ∙ shown in
    let n : to + 1 ≡ suc to = omega arith in
    record {
      full = record { all = ap length items ∙ long; room = ap (λ z. z.capacity) q ∙ room };
      above = ap (λ k. numbered k next.items) n ∙ ap (numbered (suc to)) items ∙ none-more (suc to) front ∙ first-gone to slots.items
          ∙ ap (held_above (suc to)) g.above ∙ above-above to (suc to) (numbered b old.items) (omega arith) ∙ sym (ap (λ k. held_above k (numbered b old.items)) n);
    }

-- ---- the window

-- the slot at which an entry that is taken belongs is empty
pub slot-empty : (b g i : ℕ) (slots : List (Option Entry)) → g ≡ b + 1 + i → i < length slots → held_at g (numbered b slots) ≡ None → slice_get slots i ≡ Some None
slot-empty b g i slots n within none =
    let at : slice_get slots i ≡ Some (get_or slots i None) = slice_get-get_or slots i None within in
    let is : get_or slots i None ≡ None = sym (held-in b g i slots (get_or slots i None) n at) ∙ none in
    at ∙ ap Some is

unheld : (o : Option Entry) → not (is_some o) ≡ true → o ≡ None
unheld None q = refl
unheld (Some e) q = cc

abbrev pub window_of : ℕ → ℕ → Buffer (Option Entry) → WindowModel
window_of stable delivered slots = record { stable = stable; delivered = delivered; held = numbered stable slots.items }

-- an entry that is taken
pub record Filled (stable delivered g i : ℕ) (e : Entry) (slots next : Buffer (Option Entry)) : Type 0 where
  pub offered : offers g (window_of stable delivered slots) ≡ true
  pub place : g ≡ stable + 1 + i
  pub after : next ≡ buffer (slice_set slots.items i (Some e)) slots.capacity

pub filled-held : (stable delivered g i : ℕ) (e : Entry) (slots next : Buffer (Option Entry)) → IsRing stable delivered slots → Filled stable delivered g i e slots next
    → numbered stable next.items ≡ held_with g e (numbered stable slots.items)
filled-held stable delivered g i e slots next r f =
    let o : Offered g (window_of stable delivered slots) = offered g (window_of stable delivered slots) f.offered in
    let free : not (is_some (held_at g (numbered stable slots.items))) ≡ true = grind (arith, nat_tests, f.offered) in
    let within : i < length slots.items = omega (arith, o.reach, f.place, r.full.all) in
    ap (λ z. numbered stable z.items) f.after
    ∙ slot-filled stable g i e slots.items f.place (slot-empty stable g i slots.items f.place within (unheld (held_at g (numbered stable slots.items)) free))

pub filled-ring : (stable delivered g i : ℕ) (e : Entry) (slots next : Buffer (Option Entry)) → IsRing stable delivered slots → Filled stable delivered g i e slots next
    → IsRing stable delivered next
filled-ring stable delivered g i e slots next r f =
    let o : Offered g (window_of stable delivered slots) = offered g (window_of stable delivered slots) f.offered in
    record {
      full = record {
        all = ap (λ z. length z.items) f.after ∙ length-set slots.items i (Some e) ∙ r.full.all;
        room = ap (λ z. z.capacity) f.after ∙ r.full.room;
      };
      window = taken-kept (window_of stable delivered slots) g e (numbered stable next.items) r.window o.past o.reach o.small
          (λ k. ap (held_at k) (filled-held stable delivered g i e slots next r f) ∙ held_at-with k g e (numbered stable slots.items))
          (numbers-rise stable next.items);
    }

pub filled-taken : (stable delivered g i : ℕ) (e : Entry) (slots next : Buffer (Option Entry)) → IsRing stable delivered slots → Filled stable delivered g i e slots next
    → window_of stable delivered next ≡ taken g e (window_of stable delivered slots)
filled-taken stable delivered g i e slots next r f =
    let w : WindowModel = window_of stable delivered slots in
    let full : WindowModel = record w { held = held_with g e w.held } in
    let h : window_of stable delivered next ≡ full = ap (λ (held : List (ℕ × Entry)). record { stable = stable; delivered = delivered; held = held }) (filled-held stable delivered g i e slots next r f) in
    h ∙ sym (ap (λ b. cond b full w) f.offered)

empty-kept : IsWindow empty_window
unfolding IsStrictlySortedBy
empty-kept = record {
  counts = omega arith;
  last = omega arith;
  above = λ g h. cc;
  within = λ g h. cc;
  small = λ g h. cc;
  there = λ g a b. absurd (omega arith);
  rising = tt;
}

-- the window lets go
pub gone-ring : (stable delivered to : ℕ) (slots next : Buffer (Option Entry)) → IsRing stable delivered slots → stable ≤ to → to ≤ delivered
    → IsFull next → numbered to next.items ≡ held_above to (numbered stable slots.items) → IsRing to delivered next
gone-ring stable delivered to slots next r low high full above = record {
  full = full;
  window = subst (λ (held : List (ℕ × Entry)). IsWindow (record { stable = to; delivered = delivered; held = held })) (sym above)
      (above-kept (window_of stable delivered slots) to r.window low high
      (subst (λ (held : List (ℕ × Entry)). IsStrictlySortedBy nat_cmp (keys_of held)) above (numbers-rise to next.items)));
}

-- an empty slot more
pub one-pushed : (n : ℕ) (slots next : Buffer (Option Entry)) → numbered 0 slots.items ≡ [] → length slots.items ≡ n → n < slots.capacity
    → next ≡ buffer (keep_last slots.capacity (slots.items ++ None ∷ [])) slots.capacity → (numbered 0 next.items ≡ []) × (length next.items ≡ n + 1)
one-pushed n slots next none many le q =
    let long : length (slots.items ++ None ∷ []) ≡ n + 1 = simp length-append (omega (arith, many)) in
    let items : next.items ≡ slots.items ++ None ∷ [] =
    ap (λ z. z.items) q ∙ all-kept slots.capacity (slots.items ++ None ∷ []) (omega (arith, long, le)) in
    (ap (numbered 0) items ∙ none-more 0 slots.items ∙ none, ap length items ∙ long)

-- the window of a new view
pub new-ring : (slots : Buffer (Option Entry)) → IsFull slots → numbered 0 slots.items ≡ [] → IsRing 0 0 slots
new-ring slots full none = record {
  full = full;
  window = subst (λ (held : List (ℕ × Entry)). IsWindow (record { stable = 0; delivered = 0; held = held })) (sym none) empty-kept;
}

-- ---- how many are held

-- whatever number the slots follow
pub length-from : (a b : ℕ) (slots : List (Option Entry)) → length (numbered a slots) ≡ length (numbered b slots)
length-from a b [] = refl
length-from a b (None ∷ slots) = length-from (suc a) (suc b) slots
length-from a b (Some e ∷ slots) = ap suc (length-from (suc a) (suc b) slots)

-- a count of those before `left`
pub record IsCounted (count : ℕ) (left : List (Option Entry)) (all : ℕ) : Type 0 where
  pub whole : count + length (numbered 0 left) ≡ all
  pub few : count + length left ≤ WINDOW

pub counted-none : (left : List (Option Entry)) (stable delivered : ℕ) (slots : Buffer (Option Entry)) → IsRing stable delivered slots → left ≡ slots.items
    → IsCounted 0 left (length (numbered stable slots.items))
counted-none left stable delivered slots r same = record {
  whole = omega (arith, ap (λ l. length (numbered 0 l)) same, length-from 0 stable slots.items);
  few = omega (arith, ap (λ l. length l) same, r.full.all);
}

pub counted-one : (count all : ℕ) (x : Option Entry) (left : List (Option Entry)) → is_some x ≡ true → IsCounted count (x ∷ left) all → IsCounted (count + 1) left all
counted-one count all None left q c = cc
counted-one count all (Some e) left q c = record { whole = omega (arith, c.whole, length-from 0 1 left); few = omega (arith, c.few) }

pub counted-other : (count all : ℕ) (x : Option Entry) (left : List (Option Entry)) → is_some x ≡ false → IsCounted count (x ∷ left) all → IsCounted count left all
counted-other count all None left q c = record { whole = omega (arith, c.whole, length-from 0 1 left); few = omega (arith, c.few) }
counted-other count all (Some e) left q c = cc
