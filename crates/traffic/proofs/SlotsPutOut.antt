-- What is put out of a window's slots, one slot after another.
use Rattle.std.proofs.Common.{◌≡◌, ℕ, suc, ◌+◌, ◌≤◌, List, ◌∷◌, ◌++◌, Option, Some, length, sym, ap, ◌∙◌, subst, arith, append_assoc}
use Rattle.std.specs.List.{flat_map, AllByRecursion}
use Rattle.address.specs.declared.limits.TheConstants.{WINDOW, GREATEST_NUMBER}
use Rattle.wire_values.specs.Values.{Entry}
use Rattle.wire_values.specs.Fields.{IsNumber, IsPlaced, placed_bytes}
use Rattle.nak_stream.specs.Windows.{WindowModel, IsWindow}
use Rattle.nak_stream.specs.Rings.{numbered}
use Rattle.traffic.proofs.WindowsReported.{window-numbers}

-- so far `bytes`, where the slots `left` after the number `before` are left of all that is held, which is put after `first`
pub record IsPut (first : List ℕ) (held : List (ℕ × Entry)) (before : ℕ) (left : List (Option Entry)) (bytes : List ℕ) : Type 0 where
  pub rest : bytes ++ flat_map placed_bytes (numbered before left) ≡ first ++ flat_map placed_bytes held
  pub numbers : AllByRecursion (λ h. IsNumber h.0) (numbered before left)
  pub placed : AllByRecursion IsPlaced (numbered before left) → AllByRecursion IsPlaced held
  pub few : before + length left ≤ GREATEST_NUMBER + WINDOW

pub put-none : (w : WindowModel) (left : List (Option Entry)) (bytes : List ℕ) → IsWindow w → numbered w.stable left ≡ w.held → length left ≡ WINDOW
    → IsPut bytes w.held w.stable left bytes
put-none w left bytes i same all = record {
  rest = ap (λ (l : List (ℕ × Entry)). bytes ++ flat_map placed_bytes l) same;
  numbers = subst (λ (l : List (ℕ × Entry)). AllByRecursion (λ h. IsNumber h.0) l) (sym same) (window-numbers w i);
  placed = λ h. subst (λ (l : List (ℕ × Entry)). AllByRecursion IsPlaced l) same h;
  few = omega (arith, i.counts, i.last, all);
}

next : (n : ℕ) → suc n ≡ n + 1
next n = omega arith

pub put-one : (first : List ℕ) (held : List (ℕ × Entry)) (n : ℕ) (e : Entry) (left : List (Option Entry)) (bytes more : List ℕ)
    → IsPut first held n (Some e ∷ left) bytes → IsPlaced (n + 1, e) → more ≡ bytes ++ placed_bytes (n + 1, e) → IsPut first held (n + 1) left more
put-one first held n e left bytes more p placed is =
    let there : more ≡ bytes ++ placed_bytes (suc n, e) = is ∙ ap (λ (k : ℕ). bytes ++ placed_bytes (k, e)) (sym (next n)) in
    subst (λ (k : ℕ). IsPut first held k left more) (next n) (record {
      rest = ap (λ (bs : List ℕ). bs ++ flat_map placed_bytes (numbered (suc n) left)) there
          ∙ append_assoc bytes (placed_bytes (suc n, e)) (flat_map placed_bytes (numbered (suc n) left)) ∙ p.rest;
      numbers = p.numbers.1;
      placed = λ all. p.placed (subst (λ (k : ℕ). IsPlaced (k, e)) (sym (next n)) placed, all);
      few = omega (arith, p.few);
    })
