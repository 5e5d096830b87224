-- What a window holds can be reported: its numbers rise, are near its counts, and none is left out up to the delivered count.
use Rattle.std.proofs.Common.{◌≡◌, ℕ, ◌+◌, ◌<◌, ◌≤◌, Bool, true, false, cond, Some, List, [], ◌∷◌, length, refl, sym, ap, ◌∙◌, arith, nat_eq, is_some, subst}
use Rattle.std.specs.Prelude.{IsSome, nat_le, nat_lt, ◌&&◌, min, if◌then◌else◌}
use Rattle.std.specs.Ordering.{nat_cmp}
use Rattle.std.specs.declared.cmp.Ordering.TheVariants.{Less}
use Rattle.std.specs.Map.{keys_of}
use Rattle.std.specs.List.{AllByRecursion}
use Rattle.std.specs.List.Sorted.{IsStrictlySortedBy}
use Rattle.std.proofs.lemmas.Bool.Decides.{nat_tests}
use Rattle.address.specs.declared.limits.TheConstants.{WINDOW, GREATEST_NUMBER}
use Rattle.address.specs.Ids.{ViewId}
use Rattle.wire_values.specs.Values.{Entry, held_at}
use Rattle.view.specs.Members.{View}
use Rattle.wire_values.specs.Fields.{IsNumber}
use Rattle.wire_values.specs.Lists.{highest_next, are_held, is_filled, is_report}
use Rattle.law_acts.specs.Cores.{ViewCore, report_with}
use Rattle.nak_stream.specs.Windows.{WindowModel, IsWindow}
use Rattle.std.proofs.lemmas.Bool.{eqb-true}

other-number : (g x : ℕ) → x < g → nat_eq g x ≡ false
other-number g x low = grind (arith, nat_tests)

less-is : (a b : ℕ) → nat_cmp a b ≡ Less → a < b
less-is a b e = grind (arith, nat_tests)

past-by : (b : Bool) (k g : ℕ) (h : ℕ × Entry) (held : List (ℕ × Entry)) → nat_eq g h.0 ≡ b → k < h.0 → (IsSome (held_at g held) → k < g) → IsSome (held_at g (h ∷ held)) → k < g
past-by true k g h held q low rest found = let n : g ≡ h.0 = eqb-true g h.0 q in omega arith
past-by false k g h held q low rest found = rest (sym (ap (λ t. is_some (cond t (Some h.1) (held_at g held))) q) ∙ found)

-- a key that is below all others is below each at which something is held
past-key : (k : ℕ) (held : List (ℕ × Entry)) → AllByRecursion (λ y. nat_cmp k y ≡ Less) (keys_of held) → (g : ℕ) → IsSome (held_at g held) → k < g
past-key k [] all g found = absurd (let n : false ≡ true = found in cc)
past-key k (h ∷ held) all g found = past-by (nat_eq g h.0) k g h held refl (less-is k h.0 all.0) (past-key k held all.1 g) found

-- a list of which all lies past the last number, as a window has it
record Rises (s d last : ℕ) (held : List (ℕ × Entry)) : Type 0 where
  above : (g : ℕ) → IsSome (held_at g held) → last < g
  within : (g : ℕ) → IsSome (held_at g held) → (g ≤ s + WINDOW) × (g ≤ GREATEST_NUMBER)
  there : (g : ℕ) → last < g → g ≤ d → IsSome (held_at g held)
  rising : IsStrictlySortedBy nat_cmp (keys_of held)

rising-parts : (h : ℕ × Entry) (held : List (ℕ × Entry)) → IsStrictlySortedBy nat_cmp (keys_of (h ∷ held)) → AllByRecursion (λ y. nat_cmp h.0 y ≡ Less) (keys_of held) × IsStrictlySortedBy nat_cmp (keys_of held)
unfolding IsStrictlySortedBy
rising-parts h held r = r

at-head : (h : ℕ × Entry) (held : List (ℕ × Entry)) → IsSome (held_at h.0 (h ∷ held))
at-head h held = let q : nat_eq h.0 h.0 ≡ true = grind (arith, nat_tests) in ap (λ t. is_some (cond t (Some h.1) (held_at h.0 held))) q

in-rest : (g : ℕ) (h : ℕ × Entry) (held : List (ℕ × Entry)) → h.0 < g → held_at g (h ∷ held) ≡ held_at g held
in-rest g h held low = ap (λ t. cond t (Some h.1) (held_at g held)) (other-number g h.0 low)

rest-rises : (s d last : ℕ) (h : ℕ × Entry) (held : List (ℕ × Entry)) → Rises s d last (h ∷ held) → Rises s d h.0 held
rest-rises s d last h held r =
    let parts = rising-parts h held r.rising in
    let low : last < h.0 = r.above h.0 (at-head h held) in
    record {
      above = past-key h.0 held parts.0;
      within = λ g found. r.within g (ap is_some (in-rest g h held (past-key h.0 held parts.0 g found)) ∙ found);
      there = λ g past high. sym (ap is_some (in-rest g h held past)) ∙ r.there g (omega arith) high;
      rising = parts.1;
    }

-- the next number up to the delivered count is the very first
next-is : (b : Bool) (s d last : ℕ) (h : ℕ × Entry) (held : List (ℕ × Entry)) → Rises s d last (h ∷ held) → last < d → nat_eq (last + 1) h.0 ≡ b → h.0 ≡ last + 1
next-is true s d last h held r low q = sym (eqb-true (last + 1) h.0 q)
next-is false s d last h held r low q =
    let past : last < h.0 = r.above h.0 (at-head h held) in
    let found : IsSome (held_at (last + 1) held) = sym (ap (λ t. is_some (cond t (Some h.1) (held_at (last + 1) held))) q) ∙ r.there (last + 1) (omega arith) (omega arith) in
    let over : h.0 < last + 1 = (rest-rises s d last h held r).above (last + 1) found in
    absurd (omega arith)

highest-by : (s d last x : ℕ) → (last < d → x ≡ last + 1) → last < x → x ≤ s + WINDOW → x ≤ GREATEST_NUMBER → (nat_le (last + 1) x && nat_le x (highest_next s d last)) ≡ true
highest-by s d last x next past near small = by (nat_lt last d) refl
  where
    by : (b : Bool) → nat_lt last d ≡ b → (nat_le (last + 1) x && nat_le x (if b then last + 1 else min (s + WINDOW) GREATEST_NUMBER)) ≡ true
    by true q = let n : x ≡ last + 1 = next (grind (arith, nat_tests)) in grind (arith, nat_tests)
    by false q = grind (arith, nat_tests)

rises-held : (s d last : ℕ) (held : List (ℕ × Entry)) → Rises s d last held → are_held s d last held ≡ true
rises-held s d last [] r = refl
rises-held s d last (h ∷ held) r =
    let w = r.within h.0 (at-head h held) in
    ap (λ b. b && are_held s d h.0 held) (highest-by s d last h.0 (λ low. next-is (nat_eq (last + 1) h.0) s d last h held r low refl) (r.above h.0 (at-head h held)) w.0 w.1)
    ∙ rises-held s d h.0 held (rest-rises s d last h held r)

few-held : (s d last : ℕ) (held : List (ℕ × Entry)) → Rises s d last held → last ≤ s + WINDOW → last + length held ≤ s + WINDOW
few-held s d last [] r low = omega arith
few-held s d last (h ∷ held) r low =
    let w = r.within h.0 (at-head h held) in
    let past : last < h.0 = r.above h.0 (at-head h held) in
    let rest : h.0 + length held ≤ s + WINDOW = few-held s d h.0 held (rest-rises s d last h held r) w.0 in
    omega arith

none-above : (b : Bool) (d last : ℕ) → nat_lt last d ≡ b → (last < d → ⊥) → d ≤ last
none-above true d last q no-one = absurd (no-one (grind (arith, nat_tests)))
none-above false d last q no-one = grind (arith, nat_tests)

covers-by : (b : Bool) (s d last : ℕ) (h : ℕ × Entry) (held : List (ℕ × Entry)) → Rises s d last (h ∷ held) → nat_lt last d ≡ b → d ≤ h.0 + length held → d ≤ last + length (h ∷ held)
covers-by true s d last h held r q rest =
    let n : h.0 ≡ last + 1 = next-is (nat_eq (last + 1) h.0) s d last h held r (grind (arith, nat_tests)) refl in omega arith
covers-by false s d last h held r q rest = let n : d ≤ last = grind (arith, nat_tests) in omega arith

covers : (s d last : ℕ) (held : List (ℕ × Entry)) → Rises s d last held → d ≤ last + length held
covers s d last [] r = let n : d ≤ last = none-above (nat_lt last d) d last refl (λ low. let f : false ≡ true = r.there d low (omega arith) in cc) in omega arith
covers s d last (h ∷ held) r = covers-by (nat_lt last d) s d last h held r refl (covers s d h.0 held (rest-rises s d last h held r))

window-rises : (w : WindowModel) → IsWindow w → Rises w.stable w.delivered w.stable w.held
window-rises w i = record { above = i.above; within = λ g found. (i.within g found, i.small g found); there = i.there; rising = i.rising }

delivered-near : (b : Bool) (w : WindowModel) → IsWindow w → nat_lt w.stable w.delivered ≡ b → w.delivered ≤ w.stable + WINDOW
delivered-near true w i q = i.within w.delivered (i.there w.delivered (grind (arith, nat_tests)) (omega arith))
delivered-near false w i q = let n : w.delivered ≤ w.stable = grind (arith, nat_tests) in omega arith

filled-by : (s d n : ℕ) (c : Bool) → s ≤ d → d ≤ s + WINDOW → d ≤ GREATEST_NUMBER → n ≤ WINDOW → d ≤ s + n → c ≡ true
    → (nat_le s d && nat_le d (min (s + WINDOW) GREATEST_NUMBER) && nat_le n WINDOW && nat_le d (s + n) && c) ≡ true
filled-by s d n c a b e f g h = grind (arith, nat_tests)

-- what a window counts and holds is a report of a view
pub window-reported : (id : ViewId) (w : WindowModel) → IsWindow w → is_filled (record { previous = Some id; stable = w.stable; delivered = w.delivered; held = w.held }) ≡ true
window-reported id w i =
    let r = window-rises w i in
    let few : w.stable + length w.held ≤ w.stable + WINDOW = few-held w.stable w.delivered w.stable w.held r (omega arith) in
    filled-by w.stable w.delivered (length w.held) (are_held w.stable w.delivered w.stable w.held) i.counts (delivered-near (nat_lt w.stable w.delivered) w i refl) i.last (omega arith)
    (covers w.stable w.delivered w.stable w.held r) (rises-held w.stable w.delivered w.stable w.held r)

all-numbers : (s d last : ℕ) (held : List (ℕ × Entry)) → Rises s d last held → AllByRecursion (λ h. IsNumber h.0) held
all-numbers s d last [] r = tt
all-numbers s d last (h ∷ held) r =
    let past : last < h.0 = r.above h.0 (at-head h held) in
    ((omega arith, (r.within h.0 (at-head h held)).1), all-numbers s d h.0 held (rest-rises s d last h held r))

-- what a window holds is held at numbers from 1 to `GREATEST_NUMBER`
pub window-numbers : (w : WindowModel) → IsWindow w → AllByRecursion (λ h. IsNumber h.0) w.held
window-numbers w i = all-numbers w.stable w.delivered w.stable w.held (window-rises w i)

-- so it is where these are said of what a member keeps
pub view_state-reported : (v : View) (w : WindowModel) (t : ViewCore) → IsWindow w → w.stable ≡ t.stable → w.delivered ≡ t.delivered → w.held ≡ t.held → is_report (report_with (Some v) t) ≡ true
view_state-reported v w t i stable delivered held =
    subst (λ h. is_filled (record { previous = Some v.id; stable = t.stable; delivered = t.delivered; held = h }) ≡ true) held
    (subst (λ d. is_filled (record { previous = Some v.id; stable = t.stable; delivered = d; held = w.held }) ≡ true) delivered
    (subst (λ s. is_filled (record { previous = Some v.id; stable = s; delivered = w.delivered; held = w.held }) ≡ true) stable (window-reported v.id w i)))
