-- The window in the words of agreement.
use Rattle.std.proofs.Common.{◌≡◌, ℕ, ◌+◌, ◌<◌, ◌≤◌, Bool, ◌&&◌, true, false, cond, not, Option, Some, None, List, refl, ap, ◌∙◌, arith, is_some, nat_eq}
use Rattle.std.specs.Prelude.{nat_lt, nat_le}
use Rattle.std.proofs.lemmas.Bool.Decides.{nat_tests}
use Rattle.std.proofs.lemmas.Bool.{cond-true}
use Rattle.address.specs.declared.limits.TheConstants.{WINDOW, GREATEST_NUMBER}
use Rattle.wire_values.specs.Values.{Entry, held_at}
use Rattle.nak_stream.specs.Windows.{WindowModel, held_with, held_above, offers, taken, delivering}
use Rattle.nak_stream.proofs.Windows.{held_at-with, held_at-above}
use Rattle.law_acts.specs.Acts.{HoldsMore, HoldsAbove}

turned-number : (g k : ℕ) → nat_eq g k ≡ nat_eq k g
turned-number g k = grind (arith, nat_tests)

pub holds-more : (g : ℕ) (e : Entry) (held : List (ℕ × Entry)) → held_at g held ≡ None → HoldsMore held g e (held_with g e held)
holds-more g e held free = record {
  free = free;
  now = λ k. held_at-with k g e held ∙ ap (λ (b : Bool). cond b (Some e) (held_at k held)) (turned-number g k);
}

above-by : (b : Bool) (t k : ℕ) (held : List (ℕ × Entry)) → nat_lt t k ≡ b → (t < k → held_at k (held_above t held) ≡ held_at k held) × (k ≤ t → held_at k (held_above t held) ≡ None)
above-by true t k held h = (λ over. held_at-above k t held ∙ ap (λ (b : Bool). cond b (held_at k held) None) h, λ under. absurd (let x : t < k = grind (arith, nat_tests) in omega arith))
above-by false t k held h = (λ over. absurd (let x : k ≤ t = grind (arith, nat_tests) in omega arith), λ under. held_at-above k t held ∙ ap (λ (b : Bool). cond b (held_at k held) None) h)

pub holds-above : (t : ℕ) (held : List (ℕ × Entry)) → HoldsAbove held t (held_above t held)
holds-above t held = record {
  above = λ k over. (above-by (nat_lt t k) t k held refl).0 over;
  below = λ k under. (above-by (nat_lt t k) t k held refl).1 under;
}

-- ---- an entry comes at the number after the delivered ones, and is delivered

offers-next : (w : WindowModel) → w.delivered < w.stable + WINDOW → w.delivered < GREATEST_NUMBER → held_at (w.delivered + 1) w.held ≡ None → offers (w.delivered + 1) w ≡ true
offers-next w room small free =
    let a : nat_lt w.delivered (w.delivered + 1) ≡ true = grind (arith, nat_tests) in
    let b : nat_le (w.delivered + 1) (w.stable + WINDOW) ≡ true = grind (arith, nat_tests) in
    let c : nat_le (w.delivered + 1) GREATEST_NUMBER ≡ true = grind (arith, nat_tests) in
    ap (λ (x : Bool). x && nat_le (w.delivered + 1) (w.stable + WINDOW) && nat_le (w.delivered + 1) GREATEST_NUMBER && not (is_some (held_at (w.delivered + 1) w.held))) a
    ∙ ap (λ (x : Bool). x && nat_le (w.delivered + 1) GREATEST_NUMBER && not (is_some (held_at (w.delivered + 1) w.held))) b
    ∙ ap (λ (x : Bool). x && not (is_some (held_at (w.delivered + 1) w.held))) c
    ∙ ap (λ (o : Option Entry). not (is_some o)) free

pub next-taken : (w : WindowModel) (e : Entry) → w.delivered < w.stable + WINDOW → w.delivered < GREATEST_NUMBER → held_at (w.delivered + 1) w.held ≡ None
    → delivering (taken (w.delivered + 1) e w) ≡ record { stable = w.stable; delivered = w.delivered + 1; held = held_with (w.delivered + 1) e w.held }
next-taken w e room small free =
    let g = w.delivered + 1 in
    let more : WindowModel = record w { held = held_with g e w.held } in
    let itself : nat_eq g g ≡ true = grind (arith, nat_tests) in
    let there : is_some (held_at g (held_with g e w.held)) ≡ true = ap is_some (held_at-with g g e w.held ∙ ap (λ (b : Bool). cond b (Some e) (held_at g w.held)) itself) in
    ap delivering (cond-true (offers g w) more w (offers-next w room small free)) ∙ cond-true (is_some (held_at g (held_with g e w.held))) (record more { delivered = g }) more there
