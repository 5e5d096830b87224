-- What a report holds: every number past its stable count up to its delivered one, and none past the window.
use Rattle.std.proofs.Common.{◌≡◌, ℕ, ◌+◌, ◌<◌, ◌≤◌, Bool, true, false, cond, Option, Some, None, List, [], ◌∷◌, length, refl, sym, ap, ◌∙◌, arith, nat_eq}
use Rattle.std.specs.Prelude.{IsSome, is_some, nat_le, ◌==◌, ◌&&◌, min}
use Rattle.address.specs.declared.limits.TheConstants.{GREATEST_NUMBER, WINDOW}
use Rattle.std.specs.Option.{option_map_or}
use Rattle.std.proofs.lemmas.Bool.{and_parts, eqb-true}
use Rattle.std.proofs.lemmas.Bool.Decides.{nat_tests}
use Rattle.address.specs.Ids.{ViewId}
use Rattle.wire_values.specs.Values.{Entry, held_at, Report}
use Rattle.wire_values.specs.Lists.{highest_next, are_held, is_filled, is_nothing, is_report}

-- the number after the last, until the delivered count is reached
next-is : (s d last x : ℕ) → last < d → nat_le (last + 1) x ≡ true → nat_le x (highest_next s d last) ≡ true → x ≡ last + 1
next-is s d last x low a b = grind (arith, nat_tests)

near-is : (s d last x : ℕ) → d ≤ s + WINDOW → nat_le x (highest_next s d last) ≡ true → x ≤ s + WINDOW
near-is s d last x near b = grind (arith, nat_tests)

above-is : (last x : ℕ) → nat_le (last + 1) x ≡ true → last < x
above-is last x a = grind (arith, nat_tests)

later : (g x last : ℕ) → x ≡ last + 1 → last < g → nat_eq g x ≡ false → x < g
later g x last e low q = grind (arith, nat_tests)

-- what the first entry of a list meets, and the others
record Risen (s d last : ℕ) (h : ℕ × Entry) (held : List (ℕ × Entry)) : Type 0 where
  past : nat_le (last + 1) h.0 ≡ true
  high : nat_le h.0 (highest_next s d last) ≡ true
  others : are_held s d h.0 held ≡ true

risen : (s d last : ℕ) (h : ℕ × Entry) (held : List (ℕ × Entry)) → are_held s d last (h ∷ held) ≡ true → Risen s d last h held
risen s d last h held rises =
    let tests = and_parts (nat_le (last + 1) h.0 && nat_le h.0 (highest_next s d last)) (are_held s d h.0 held) rises in
    let range = and_parts (nat_le (last + 1) h.0) (nat_le h.0 (highest_next s d last)) tests.0 in
    record { past = range.0; high = range.1; others = tests.1 }

here-or-later : (b : Bool) (g : ℕ) (h : ℕ × Entry) (held : List (ℕ × Entry)) → nat_eq g h.0 ≡ b → (nat_eq g h.0 ≡ false → IsSome (held_at g held)) → IsSome (held_at g (h ∷ held))
here-or-later true g h held q rest = ap (λ t. is_some (cond t (Some h.1) (held_at g held))) q
here-or-later false g h held q rest = ap (λ t. is_some (cond t (Some h.1) (held_at g held))) q ∙ rest q

-- each number past the last, up to the delivered count, is held
fills : (s d last : ℕ) (held : List (ℕ × Entry)) → are_held s d last held ≡ true → d ≤ last + length held → (g : ℕ) → last < g → g ≤ d → IsSome (held_at g held)
fills s d last [] rises enough g low high = absurd (omega arith)
fills s d last (h ∷ held) rises enough g low high =
    let r = risen s d last h held rises in
    let n : h.0 ≡ last + 1 = next-is s d last h.0 (omega arith) r.past r.high in
    let more : d ≤ h.0 + length held = omega arith in
    here-or-later (nat_eq g h.0) g h held refl (λ q. fills s d h.0 held r.others more g (later g h.0 last n low q) high)

near-by : (b : Bool) (s d last g : ℕ) (h : ℕ × Entry) (held : List (ℕ × Entry)) → d ≤ s + WINDOW → Risen s d last h held → nat_eq g h.0 ≡ b
    → (IsSome (held_at g held) → (h.0 < g) × (g ≤ s + WINDOW)) → IsSome (held_at g (h ∷ held)) → (last < g) × (g ≤ s + WINDOW)
near-by true s d last g h held small r q rest found =
    let n : g ≡ h.0 = eqb-true g h.0 q in
    let a : last < h.0 = above-is last h.0 r.past in
    let z : h.0 ≤ s + WINDOW = near-is s d last h.0 small r.high in
    (omega arith, omega arith)
near-by false s d last g h held small r q rest found =
    let a : last < h.0 = above-is last h.0 r.past in
    let others = rest (sym (ap (λ t. is_some (cond t (Some h.1) (held_at g held))) q) ∙ found) in
    let low : h.0 < g = others.0 in
    (omega arith, others.1)

-- what is held lies past the last and within the window
near : (s d last : ℕ) (held : List (ℕ × Entry)) → d ≤ s + WINDOW → are_held s d last held ≡ true → (g : ℕ) → IsSome (held_at g held) → (last < g) × (g ≤ s + WINDOW)
near s d last [] small rises g h = absurd (let n : false ≡ true = h in cc)
near s d last (h ∷ held) small rises g found =
    let r = risen s d last h held rises in
    near-by (nat_eq g h.0) s d last g h held small r refl (near s d h.0 held small r.others g) found

-- the rules of a report, read
record Rules (r : Report) : Type 0 where
  counts : r.stable ≤ r.delivered
  small : r.delivered ≤ r.stable + WINDOW
  enough : r.delivered ≤ r.stable + length r.held
  rises : are_held r.stable r.delivered r.stable r.held ≡ true

no-entry : (s d last : ℕ) (held : List (ℕ × Entry)) → nat_eq (length held) 0 ≡ true → are_held s d last held ≡ true
no-entry s d last [] h = refl
no-entry s d last (x ∷ held) h = absurd (grind (arith, nat_tests))

rules-by : (r : Report) (o : Option ViewId) → option_map_or (λ _. is_filled r) o (is_nothing r) ≡ true → Rules r
rules-by r None h =
    let a = and_parts (r.stable == 0 && r.delivered == 0) (length r.held == 0) h in
    let b = and_parts (r.stable == 0) (r.delivered == 0) a.0 in
    let s : r.stable ≡ 0 = eqb-true r.stable 0 b.0 in
    let d : r.delivered ≡ 0 = eqb-true r.delivered 0 b.1 in
    record { counts = omega arith; small = omega arith; enough = omega arith; rises = no-entry r.stable r.delivered r.stable r.held a.1 }
rules-by r (Some v) h =
    let a = and_parts (nat_le r.stable r.delivered && nat_le r.delivered (min (r.stable + WINDOW) GREATEST_NUMBER) && nat_le (length r.held) WINDOW && nat_le r.delivered (r.stable + length r.held)) (are_held r.stable r.delivered r.stable r.held) h in
    let b = and_parts (nat_le r.stable r.delivered && nat_le r.delivered (min (r.stable + WINDOW) GREATEST_NUMBER) && nat_le (length r.held) WINDOW) (nat_le r.delivered (r.stable + length r.held)) a.0 in
    let c = and_parts (nat_le r.stable r.delivered && nat_le r.delivered (min (r.stable + WINDOW) GREATEST_NUMBER)) (nat_le (length r.held) WINDOW) b.0 in
    let d = and_parts (nat_le r.stable r.delivered) (nat_le r.delivered (min (r.stable + WINDOW) GREATEST_NUMBER)) c.0 in
    record { counts = at-most _ _ d.0; small = below-least _ _ _ d.1; enough = at-most _ _ b.1; rises = a.1 }
  where
    at-most : (m n : ℕ) → nat_le m n ≡ true → m ≤ n
    at-most m n e = grind (arith, nat_tests)

    below-least : (m n o : ℕ) → nat_le m (min n o) ≡ true → m ≤ n
    below-least m n o e = grind (arith, nat_tests)

-- a report holds each number past its stable count up to its delivered one
pub report-fills : (r : Report) → is_report r ≡ true → (g : ℕ) → r.stable < g → g ≤ r.delivered → IsSome (held_at g r.held)
report-fills r h = let rules = rules-by r r.previous h in fills r.stable r.delivered r.stable r.held rules.rises rules.enough

-- what a report holds lies past its stable count, and within the window
pub report-near : (r : Report) → is_report r ≡ true → (g : ℕ) → IsSome (held_at g r.held) → (r.stable < g) × (g ≤ r.stable + WINDOW)
report-near r h = let rules = rules-by r r.previous h in near r.stable r.delivered r.stable r.held rules.small rules.rises
