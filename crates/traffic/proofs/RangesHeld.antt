-- What is held of a range of numbers.
use Rattle.std.proofs.Common.{◌≡◌, ℕ, zero, suc, ◌+◌, ◌-◌, ◌<◌, ◌≤◌, Bool, true, false, max, min, Option, Some, None, List, [], ◌∷◌, ◌++◌, refl, sym, ap, ◌∙◌, subst, arith, append_assoc}
use Rattle.std.specs.Prelude.{IsSome, nat_le}
use Rattle.std.specs.Option.{option_map_or}
use Rattle.std.proofs.lemmas.Bool.Decides.{nat_tests}
use Rattle.std.proofs.lemmas.List.{append-nil}
use Rattle.address.specs.declared.limits.TheConstants.{WINDOW}
use Rattle.address.specs.Ids.{Address}
use Rattle.view.specs.Members.{View}
use Rattle.wire_values.specs.Values.{Entry, held_at}
use Rattle.wire_values.specs.declared.packet.Body.TheVariants as bodies
use Rattle.wire_values.specs.Posted.{Posted, packet}
use Rattle.nak_stream.specs.Windows.{WindowModel, IsWindow}
use Rattle.step_output.specs.declared.output.Output.{Output}
use Rattle.step_output.specs.Outputs.{Grows}
use Rattle.traffic.specs.Takes.{orders_held}
use Rattle.step_output.proofs.GrowthAdds.{grows-then}

module _ (p : Address) (v : View) (q : Address) (held : List (ℕ × Entry)) where
  nothing-held : (k n : ℕ) → ((g : ℕ) → k ≤ g → g < k + n → held_at g held ≡ None) → orders_held p v q held k n ≡ []
  nothing-held k zero none = refl
  nothing-held k (suc n) none =
      ap (λ (o : Option Entry). option_map_or (λ e. packet p (bodies.Order v.id k e) q ∷ []) o [] ++ orders_held p v q held (k + 1) n) (none k (omega arith) (omega arith))
      ∙ nothing-held (k + 1) n (λ g low high. none g (omega (arith, low)) (omega (arith, high)))

  split-held : (k m n j l : ℕ) → j ≡ k + m → l ≡ m + n → orders_held p v q held k l ≡ orders_held p v q held k m ++ orders_held p v q held j n
  split-held k zero n j l a b = ap (orders_held p v q held k) (let e : l ≡ n = omega (arith, b) in e) ∙ ap (λ (i : ℕ). orders_held p v q held i n) (let e : k ≡ j = omega (arith, a) in e)
  split-held k (suc m) n j l a b =
      let here = option_map_or (λ e. packet p (bodies.Order v.id k e) q ∷ []) (held_at k held) [] in
      ap (orders_held p v q held k) (let e : l ≡ suc (m + n) = omega (arith, b) in e)
      ∙ ap (λ t. here ++ t) (split-held (k + 1) m n j (m + n) (omega (arith, a)) refl)
      ∙ sym (append_assoc here (orders_held p v q held (k + 1) m) (orders_held p v q held j n))

none-by : (o : Option Entry) → (IsSome o → ⊥) → o ≡ None
none-by None h = refl
none-by (Some e) h = absurd (h refl)

none-below : (w : WindowModel) (k : ℕ) → IsWindow w → k ≤ w.stable → held_at k w.held ≡ None
none-below w k i low = none-by (held_at k w.held) (λ x. let a = i.above k x in omega (arith, a, low))

none-past : (w : WindowModel) (k : ℕ) → IsWindow w → w.stable + WINDOW < k → held_at k w.held ≡ None
none-past w k i high = none-by (held_at k w.held) (λ x. let a = i.within k x in omega (arith, a, high))

clamped : (b : Bool) (p : Address) (v : View) (q : Address) (w : WindowModel) (first last low high g : ℕ) → IsWindow w → nat_le low (high + 1) ≡ b → first ≤ last → low ≡ max first (w.stable + 1) → high ≡ min last (w.stable + WINDOW)
    → low ≤ g → high < g → g ≤ max low (high + 1) → orders_held p v q w.held low (g - low) ≡ orders_held p v q w.held first (last + 1 - first)
clamped true p v q w first last low high g i t order a b under over top =
    let order_in : low ≤ high + 1 = grind (arith, nat_tests) in
    let is : g ≡ high + 1 = omega (arith, order_in, over, top) in
    let before : orders_held p v q w.held first (low - first) ≡ [] = nothing-held p v q w.held first (low - first) (λ k x y. none-below w k i (omega (arith, x, y, a))) in
    let past : orders_held p v q w.held g (last + 1 - g) ≡ [] = nothing-held p v q w.held g (last + 1 - g) (λ k x y. none-past w k i (omega (arith, x, y, b, is))) in
    sym (split-held p v q w.held first (low - first) (last + 1 - low) low (last + 1 - first) (omega (arith, a)) (omega (arith, a, b, order_in, order))
    ∙ ap (λ l. l ++ orders_held p v q w.held low (last + 1 - low)) before
    ∙ split-held p v q w.held low (g - low) (last + 1 - g) g (last + 1 - low) (omega (arith, under)) (omega (arith, under, is, b))
    ∙ ap (λ l. orders_held p v q w.held low (g - low) ++ l) past ∙ append-nil (orders_held p v q w.held low (g - low)))
clamped false p v q w first last low high g i t order a b under over top =
    let apart : high + 1 < low = grind (arith, nat_tests) in
    let none : g - low ≡ 0 = omega (arith, apart, top) in
    ap (orders_held p v q w.held low) none
    ∙ sym (nothing-held p v q w.held first (last + 1 - first) (λ k x y. by k (nat_le k w.stable) refl x (omega (arith, x, y, order))))
  where
    by : (k : ℕ) (c : Bool) → nat_le k w.stable ≡ c → first ≤ k → k ≤ last → held_at k w.held ≡ None
    by k true s from within = none-below w k i (let z : k ≤ w.stable = grind (arith, nat_tests) in z)
    by k false s from within = none-past w k i (let z : w.stable < k = grind (arith, nat_tests) in let y : high + 1 < low = grind (arith, nat_tests) in omega (arith, z, y, a, b, from, within))

pub nak-next : (p : Address) (v : View) (q : Address) (held : List (ℕ × Entry)) (group : List ℕ) (low g : ℕ) (out more most : Output) → low ≤ g → Grows group out more (orders_held p v q held low (g - low)) []
    → Grows group more most (orders_held p v q held g 1) [] → Grows group out most (orders_held p v q held low (g + 1 - low)) []
nak-next p v q held group low g out more most under x y =
    subst (λ (l : List Posted). Grows group out most l []) (sym (split-held p v q held low (g - low) 1 g (g + 1 - low) (omega (arith, under)) (omega (arith, under)))) (grows-then group out more most _ _ [] [] x y)

pub nak-all : (p : Address) (v : View) (q : Address) (w : WindowModel) (group : List ℕ) (first last low high g : ℕ) (out more : Output) → IsWindow w → first ≤ last → low ≡ max first (w.stable + 1) → high ≡ min last (w.stable + WINDOW)
    → low ≤ g → high < g → g ≤ max low (high + 1) → Grows group out more (orders_held p v q w.held low (g - low)) [] → Grows group out more (orders_held p v q w.held first (last + 1 - first)) []
nak-all p v q w group first last low high g out more i order a b under over top x =
    subst (λ (l : List Posted). Grows group out more l []) (clamped (nat_le low (high + 1)) p v q w first last low high g i refl order a b under over top) x
