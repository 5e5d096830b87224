-- What holds of each window goes on to hold as entries come, are delivered and are let go.
use Rattle.std.proofs.Common.{◌≡◌, ℕ, ◌+◌, ◌<◌, ◌≤◌, Bool, true, false, List, [], ◌∷◌, Some, None, refl, sym, ap, ◌∙◌, subst, arith, cond}
use Rattle.std.specs.Prelude.{IsSome, is_some, nat_lt, nat_eq}
use Rattle.std.specs.Ordering.{nat_cmp}
use Rattle.std.specs.Map.{keys_of}
use Rattle.std.specs.List.Sorted.{IsStrictlySortedBy}
use Rattle.std.proofs.lemmas.Bool.Decides.{nat_tests}
use Rattle.std.proofs.lemmas.Map.Entries.{lookup-filter-keys}
use Rattle.address.specs.declared.limits.TheConstants.{WINDOW, GREATEST_NUMBER}
use Rattle.wire_values.specs.Values.{Entry, held_at}
use Rattle.nak_stream.specs.Windows.{WindowModel, held_above, held_with, offers, IsWindow}
use Rattle.std.proofs.lemmas.Bool.{eqb-true}

-- a number at which an entry more is held is that entry's, or one that was held
of-one-more : (b : Bool) (g k low high : ℕ) (e : Entry) (held more : List (ℕ × Entry)) → nat_eq g k ≡ b
    → held_at k more ≡ cond (nat_eq g k) (Some e) (held_at k held) → low ≤ g → g ≤ high
    → (IsSome (held_at k held) → (low ≤ k) × (k ≤ high)) → IsSome (held_at k more) → (low ≤ k) × (k ≤ high)
of-one-more true g k low high e held more q at a b old h = (subst (λ n. low ≤ n) (eqb-true g k q) a, subst (λ n. n ≤ high) (eqb-true g k q) b)
of-one-more false g k low high e held more q at a b old h =
    old (ap is_some (sym (at ∙ ap (λ t. cond t (Some e) (held_at k held)) q)) ∙ h)

still-there : (b : Bool) (g k : ℕ) (e : Entry) (held more : List (ℕ × Entry)) → nat_eq g k ≡ b
    → held_at k more ≡ cond (nat_eq g k) (Some e) (held_at k held) → IsSome (held_at k held) → IsSome (held_at k more)
still-there true g k e held more q at h = ap is_some (at ∙ ap (λ t. cond t (Some e) (held_at k held)) q)
still-there false g k e held more q at h = ap is_some (at ∙ ap (λ t. cond t (Some e) (held_at k held)) q) ∙ h

-- a new number is held
pub taken-kept : (w : WindowModel) (g : ℕ) (e : Entry) (more : List (ℕ × Entry)) → IsWindow w → w.delivered < g → g ≤ w.stable + WINDOW → g ≤ GREATEST_NUMBER
    → ((k : ℕ) → held_at k more ≡ cond (nat_eq g k) (Some e) (held_at k w.held)) → IsStrictlySortedBy nat_cmp (keys_of more)
    → IsWindow (record w { held = more })
taken-kept w g e more i past reach small at rising =
    let low : w.stable + 1 ≤ g = omega (arith, i.counts) in record {
      counts = i.counts;
      last = i.last;
      above = λ k h. omega (arith, (of-one-more (nat_eq g k) g k (w.stable + 1) (w.stable + WINDOW) e w.held more refl (at k) low reach (λ x. (omega (arith, i.above k x), i.within k x)) h).0);
      within = λ k h. (of-one-more (nat_eq g k) g k (w.stable + 1) (w.stable + WINDOW) e w.held more refl (at k) low reach (λ x. (omega (arith, i.above k x), i.within k x)) h).1;
      small = λ k h. (of-one-more (nat_eq g k) g k (w.stable + 1) GREATEST_NUMBER e w.held more refl (at k) low small (λ x. (omega (arith, i.above k x), i.small k x)) h).1;
      there = λ k a b. still-there (nat_eq g k) g k e w.held more refl (at k) (i.there k a b);
      rising = rising;
    }

-- what a window holds above a count
pub held_at-above : (g t : ℕ) (held : List (ℕ × Entry)) → held_at g (held_above t held) ≡ cond (nat_lt t g) (held_at g held) None
held_at-above g t held = lookup-filter-keys _ (λ k. nat_lt t k) (nat_lt t g) (λ k h. ap (nat_lt t) (sym (eqb-true g k h))) held

was-held : (b : Bool) (g t : ℕ) (held : List (ℕ × Entry)) → nat_lt t g ≡ b → IsSome (held_at g (held_above t held)) → (t < g) × IsSome (held_at g held)
was-held true g t held q h = (grind (arith, nat_tests), ap is_some (sym (held_at-above g t held ∙ ap (λ b. cond b (held_at g held) None) q)) ∙ h)
was-held false g t held q h =
    let n : is_some {T = Entry} None ≡ true = ap is_some (sym (held_at-above g t held ∙ ap (λ b. cond b (held_at g held) None) q)) ∙ h in cc

pub above-kept : (w : WindowModel) (t : ℕ) → IsWindow w → w.stable ≤ t → t ≤ w.delivered → IsStrictlySortedBy nat_cmp (keys_of (held_above t w.held))
    → IsWindow (record { stable = t; delivered = w.delivered; held = held_above t w.held })
above-kept w t i low high rising = record {
  counts = high;
  last = i.last;
  above = λ k h. (was-held (nat_lt t k) k t w.held refl h).0;
  within = λ k h. omega (arith, i.within k (was-held (nat_lt t k) k t w.held refl h).1);
  small = λ k h. i.small k (was-held (nat_lt t k) k t w.held refl h).1;
  there = λ k a b. let s : w.stable < k = omega arith in let q : nat_lt t k ≡ true = grind (arith, nat_tests) in
      ap is_some (held_at-above k t w.held ∙ ap (λ b. cond b (held_at k w.held) None) q) ∙ i.there k s b;
  rising = rising;
}

-- what an entry that is taken meets
pub record Offered (g : ℕ) (w : WindowModel) : Type 0 where
  pub past : w.delivered < g
  pub reach : g ≤ w.stable + WINDOW
  pub small : g ≤ GREATEST_NUMBER

pub offered : (g : ℕ) (w : WindowModel) → offers g w ≡ true → Offered g w
offered g w h = record { past = grind (arith, nat_tests); reach = grind (arith, nat_tests); small = grind (arith, nat_tests) }

-- what is held at a number after an entry was taken in
pub held_at-with : (k g : ℕ) (e : Entry) (held : List (ℕ × Entry)) → held_at k (held_with g e held) ≡ cond (nat_eq g k) (Some e) (held_at k held)
held_at-with k g e [] = grind (arith, nat_tests)
held_at-with k g e (p ∷ held) = grind (arith, nat_tests, held_at-with k g e held)
