-- A window fills up: each ORDER that answers a request brings it one number further.
use Rattle.std.proofs.Common.{◌≡◌, ℕ, ◌+◌, ◌-◌, ◌<◌, ◌≤◌, Bool, true, false, cond, Option, Some, None, List, inl, inr, nat_eq, nat_lt, min, refl, sym, ap, ◌∙◌, subst, arith}
use Rattle.std.specs.Prelude.{nat_le, IsSome, ◌⊎◌}
use Rattle.std.proofs.lemmas.Bool.{cond-true, eqb-true}
use Rattle.std.proofs.lemmas.Bool.Decides.{nat_tests}
use Rattle.address.specs.declared.limits.TheConstants.{WINDOW, GREATEST_NUMBER}
use Rattle.address.specs.Ids.{Address}
use Rattle.wire_values.specs.Values.{Entry, held_at}
use Rattle.nak_stream.specs.Windows.{WindowModel, held_above, held_with, offers, taken, collected, IsLeastGap, IsGreatestGap}
use Rattle.nak_stream.proofs.Windows.{held_at-above, held_at-with}
use Rattle.traffic.specs.declared.follower.Follower.{Follower}
use Rattle.traffic.specs.Takes.{DeliversTo}
use Rattle.traffic.specs.Takes.DeliversTo.{Starts, DeliversMore}

-- all that is missing up to the highest number lies in this range
abbrev pub MissesWithin : ℕ → ℕ → ℕ → WindowModel → Type 0
MissesWithin first last highest w = (g : ℕ) → w.delivered < g → g ≤ highest → (g < first) ⊎ (last < g) → IsSome (held_at g w.held)

held-or-not : (o : Option Entry) → IsSome o ⊎ (o ≡ None)
held-or-not None = inr refl
held-or-not (Some e) = inl refl

-- what was asked for is such a range
pub asked-within : (w : WindowModel) (highest first last : ℕ) → IsLeastGap w highest first → IsGreatestGap w highest last → MissesWithin first last highest w
asked-within w highest first last least greatest g past known outside = by (held-or-not (held_at g w.held)) outside
  where
    by : IsSome (held_at g w.held) ⊎ (held_at g w.held ≡ None) → (g < first) ⊎ (last < g) → IsSome (held_at g w.held)
    by (inl x) o = x
    by (inr none) (inl below) = let low : first ≤ g = least.least g (record { undelivered = past; known = known; unheld = none }) in absurd (omega (arith, low, below))
    by (inr none) (inr above) = let high : g ≤ last = greatest.greatest g (record { undelivered = past; known = known; unheld = none }) in absurd (omega (arith, high, above))

-- where nothing is missing, and the next number is not held, all is delivered
pub nothing-missing : (w : WindowModel) (highest : ℕ) → ((g : ℕ) → w.delivered < g → g ≤ highest → IsSome (held_at g w.held)) → held_at (w.delivered + 1) w.held ≡ None → highest ≤ w.delivered
nothing-missing w highest all next = by (nat_lt w.delivered highest) refl
  where
    by : (b : Bool) → nat_lt w.delivered highest ≡ b → highest ≤ w.delivered
    by true e =
        let low : w.delivered < highest = grind (arith, nat_tests) in
        let there : IsSome (held_at (w.delivered + 1) w.held) = all (w.delivered + 1) (omega arith) (omega (arith, low)) in
        let bad : false ≡ true = subst IsSome next there in
        absurd cc
    by false e = grind (arith, nat_tests)

-- ---- what is stable is let go of

pub collected-delivered : (t : ℕ) (w : WindowModel) → (collected t w).delivered ≡ w.delivered
collected-delivered t w = by (nat_lt w.stable (min t w.delivered))
  where
    by : (b : Bool) → (cond b (record { stable = min t w.delivered; delivered = w.delivered; held = held_above (min t w.delivered) w.held }) w).delivered ≡ w.delivered
    by true = refl
    by false = refl

-- what lies past the delivered count stays held
pub collected-held : (t g : ℕ) (w : WindowModel) → w.delivered < g → held_at g (collected t w).held ≡ held_at g w.held
collected-held t g w past = by (nat_lt w.stable (min t w.delivered))
  where
    by : (b : Bool) → held_at g (cond b (record { stable = min t w.delivered; delivered = w.delivered; held = held_above (min t w.delivered) w.held }) w).held ≡ held_at g w.held
    by true = held_at-above g (min t w.delivered) w.held ∙ cond-true (nat_lt (min t w.delivered) g) (held_at g w.held) None (grind (arith, nat_tests))
    by false = refl

-- and so much is stable then
pub collected-stable : (t : ℕ) (w : WindowModel) → t ≤ w.delivered → t ≤ (collected t w).stable
collected-stable t w low = by (nat_lt w.stable (min t w.delivered)) refl
  where
    by : (b : Bool) → nat_lt w.stable (min t w.delivered) ≡ b → t ≤ (cond b (record { stable = min t w.delivered; delivered = w.delivered; held = held_above (min t w.delivered) w.held }) w).stable
    by true e = omega (arith, low)
    by false e = let x : min t w.delivered ≤ w.stable = grind (arith, nat_tests) in omega (arith, low, x)

-- ---- an ORDER is taken

pub taken-delivered : (g : ℕ) (e : Entry) (w : WindowModel) → (taken g e w).delivered ≡ w.delivered
taken-delivered g e w = by (offers g w)
  where
    by : (b : Bool) → (cond b (record w { held = held_with g e w.held }) w).delivered ≡ w.delivered
    by true = refl
    by false = refl

with-held : (b : Bool) (e : Entry) (o : Option Entry) → IsSome o → IsSome (cond b (Some e) o)
with-held true e o x = refl
with-held false e o x = x

pub taken-held : (g k : ℕ) (e : Entry) (w : WindowModel) → IsSome (held_at k w.held) → IsSome (held_at k (taken g e w).held)
taken-held g k e w x = by (offers g w)
  where
    by : (b : Bool) → IsSome (held_at k (cond b (record w { held = held_with g e w.held }) w).held)
    by true = subst IsSome (sym (held_at-with k g e w.held)) (with-held (nat_eq g k) e (held_at k w.held) x)
    by false = x

-- within reach it is held then, if it was not before
pub taken-here : (g : ℕ) (e : Entry) (w : WindowModel) → w.delivered < g → g ≤ w.stable + WINDOW → g ≤ GREATEST_NUMBER → IsSome (held_at g (taken g e w).held)
taken-here g e w past near small = by (held-or-not (held_at g w.held))
  where
    by : IsSome (held_at g w.held) ⊎ (held_at g w.held ≡ None) → IsSome (held_at g (taken g e w).held)
    by (inl x) = taken-held g g e w x
    by (inr none) =
        let a : nat_lt w.delivered g ≡ true = grind (arith, nat_tests) in
        let b : nat_le g (w.stable + WINDOW) ≡ true = grind (arith, nat_tests) in
        let c : nat_le g GREATEST_NUMBER ≡ true = grind (arith, nat_tests) in
        let o : offers g w ≡ true = rw (a, b, c, none) refl in
        let same : nat_eq g g ≡ true = grind (arith, nat_tests) in
        rw (o, held_at-with g g e w.held, same) refl

-- ---- what is next is delivered

pub delivers-held : (p : Address) (m n : Follower) (entries : List Entry) → DeliversTo p m entries n → n.window.held ≡ m.window.held
delivers-held p m _ _ (Starts _) = refl
delivers-held p m _ _ (DeliversMore _ n entries e so there) = delivers-held p m n entries so

pub delivers-further : (p : Address) (m n : Follower) (entries : List Entry) → DeliversTo p m entries n → m.window.delivered ≤ n.window.delivered
delivers-further p m _ _ (Starts _) = omega arith
delivers-further p m _ _ (DeliversMore _ n entries e so there) = let before : m.window.delivered ≤ n.window.delivered = delivers-further p m n entries so in omega (arith, before)

different : (k g : ℕ) → nat_eq k g ≡ false → k < g + 1 → k < g
different k g other below = grind (arith, nat_tests)

-- ---- so an ORDER with the first number of the range makes the range smaller

pub filled : (p : Address) (g last highest : ℕ) (e : Entry) (old mid new : Follower) (entries : List Entry) → g ≤ GREATEST_NUMBER → g - WINDOW ≤ old.window.delivered
    → mid.window ≡ taken g e (collected (g - WINDOW) old.window) → DeliversTo p mid entries new → MissesWithin g last highest old.window → MissesWithin (g + 1) last highest new.window
filled p g last highest e old mid new entries small near is delivers m k past known outside =
    let between = collected (g - WINDOW) old.window in
    let start : mid.window.delivered ≡ old.window.delivered = ap (λ (w : WindowModel). w.delivered) is ∙ taken-delivered g e between ∙ collected-delivered (g - WINDOW) old.window in
    let further : mid.window.delivered ≤ new.window.delivered = delivers-further p mid new entries delivers in
    let before : old.window.delivered < k = omega (arith, start, further, past) in
    let held : new.window.held ≡ (taken g e between).held = delivers-held p mid new entries delivers ∙ ap (λ (w : WindowModel). w.held) is in
    let here : between.delivered ≡ old.window.delivered = collected-delivered (g - WINDOW) old.window in
    let stable : g - WINDOW ≤ between.stable = collected-stable (g - WINDOW) old.window near in
    subst (λ (l : List (ℕ × Entry)). IsSome (held_at k l)) (sym held) (by (nat_eq k g) refl before here stable outside)
  where
    by : (b : Bool) → nat_eq k g ≡ b → old.window.delivered < k → (collected (g - WINDOW) old.window).delivered ≡ old.window.delivered → g - WINDOW ≤ (collected (g - WINDOW) old.window).stable → (k < g + 1) ⊎ (last < k)
        → IsSome (held_at k (taken g e (collected (g - WINDOW) old.window)).held)
    by true same before here stable o =
        let is : g ≡ k = sym (eqb-true k g same) in
        subst (λ (j : ℕ). IsSome (held_at j (taken g e (collected (g - WINDOW) old.window)).held)) is
        (taken-here g e (collected (g - WINDOW) old.window) (omega (arith, before, here, is)) (omega (arith, stable)) small)
    by false other before here stable (inl below) =
        taken-held g k e (collected (g - WINDOW) old.window)
        (subst IsSome (sym (collected-held (g - WINDOW) k old.window before)) (m k before known (inl (different k g other below))))
    by false other before here stable (inr above) =
        taken-held g k e (collected (g - WINDOW) old.window)
        (subst IsSome (sym (collected-held (g - WINDOW) k old.window before)) (m k before known (inr above)))
