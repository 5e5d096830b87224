-- Windows that agree with one order of a view's messages: they go on to agree, and what each delivered is a beginning of it.
use Rattle.std.proofs.Common.{◌≡◌, ℕ, ◌+◌, Bool, true, false, List, [], ◌∷◌, ◌++◌, Some, None, take, refl, sym, ap, ◌∙◌, arith, cond, min}
use Rattle.std.specs.Prelude.{slice_get, nat_eq, nat_lt, is_some}
use Rattle.wire_values.specs.Values.{Entry, held_at}
use Rattle.nak_stream.specs.Windows.{WindowModel, held_with, held_above, offers, taken, delivering, collected, empty_window}
use Rattle.nak_stream.specs.Orders.{Agrees}
use Rattle.nak_stream.proofs.Lists.{one-more}
use Rattle.nak_stream.proofs.Windows.{held_at-with, held_at-above}
use Rattle.std.proofs.lemmas.Bool.{eqb-true}

pub agrees-empty : (order : List Entry) → Agrees order empty_window
agrees-empty order k e h = cc

-- two windows that agree with one order hold the same at a number at which both hold something
pub same-entry : (order : List Entry) (v w : WindowModel) (k : ℕ) (e f : Entry) → Agrees order v → Agrees order w
    → held_at (k + 1) v.held ≡ Some e → held_at (k + 1) w.held ≡ Some f → e ≡ f
same-entry order v w k e f a b h i = let p = a k e h in let q = b k f i in cc

-- a longer order
pub agrees-longer : (order more : List Entry) (w : WindowModel) → ((k : ℕ) (e : Entry) → slice_get order k ≡ Some e → slice_get more k ≡ Some e)
    → Agrees order w → Agrees more w
agrees-longer order more w kept a k e h = kept k e (a k e h)

with-is : (b : Bool) (order : List Entry) (j k : ℕ) (e f : Entry) (held : List (ℕ × Entry)) → nat_eq (j + 1) (k + 1) ≡ b → slice_get order j ≡ Some e
    → (held_at (k + 1) held ≡ Some f → slice_get order k ≡ Some f) → cond (nat_eq (j + 1) (k + 1)) (Some e) (held_at (k + 1) held) ≡ Some f
    → slice_get order k ≡ Some f
with-is true order j k e f held q at old h =
    let n : j ≡ k = omega (arith, eqb-true (j + 1) (k + 1) q) in
    ap (slice_get order) (sym n) ∙ at ∙ sym (ap (λ b. cond b (Some e) (held_at (k + 1) held)) q) ∙ h
with-is false order j k e f held q at old h = old (sym (ap (λ b. cond b (Some e) (held_at (k + 1) held)) q) ∙ h)

taken-by : (b : Bool) (order : List Entry) (w : WindowModel) (j : ℕ) (e : Entry) → offers (j + 1) w ≡ b → slice_get order j ≡ Some e → Agrees order w
    → Agrees order (cond b (record w { held = held_with (j + 1) e w.held }) w)
taken-by true order w j e q at a = λ k f h. with-is (nat_eq (j + 1) (k + 1)) order j k e f w.held refl at (a k f) (sym (held_at-with (k + 1) (j + 1) e w.held) ∙ h)
taken-by false order w j e q at a = a

-- after an entry was offered at its number in the order
pub agrees-taken : (order : List Entry) (w : WindowModel) (j : ℕ) (e : Entry) → slice_get order j ≡ Some e → Agrees order w → Agrees order (taken (j + 1) e w)
agrees-taken order w j e at a = taken-by (offers (j + 1) w) order w j e refl at a

delivering-by : (b : Bool) (order : List Entry) (w : WindowModel) → Agrees order w → Agrees order (cond b (record w { delivered = w.delivered + 1 }) w)
delivering-by true order w a = a
delivering-by false order w a = a

pub agrees-delivering : (order : List Entry) (w : WindowModel) → Agrees order w → Agrees order (delivering w)
agrees-delivering order w a = delivering-by (is_some (held_at (w.delivered + 1) w.held)) order w a

above-is : (b : Bool) (g t : ℕ) (e : Entry) (held : List (ℕ × Entry)) → nat_lt t g ≡ b → held_at g (held_above t held) ≡ Some e → held_at g held ≡ Some e
above-is true g t e held q h = sym (held_at-above g t held ∙ ap (λ b. cond b (held_at g held) None) q) ∙ h
above-is false g t e held q h =
    let n : None ≡ Some e = sym (held_at-above g t held ∙ ap (λ b. cond b (held_at g held) None) q) ∙ h in cc

collected-by : (b : Bool) (order : List Entry) (w : WindowModel) (t : ℕ) → Agrees order w
    → Agrees order (cond b (record { stable = t; delivered = w.delivered; held = held_above t w.held }) w)
collected-by true order w t a = λ k e h. a k e (above-is (nat_lt t (k + 1)) (k + 1) t e w.held refl h)
collected-by false order w t a = a

pub agrees-collected : (order : List Entry) (w : WindowModel) (t : ℕ) → Agrees order w → Agrees order (collected t w)
agrees-collected order w t a = collected-by (nat_lt w.stable (min t w.delivered)) order w (min t w.delivered) a

-- what was delivered is a beginning of the order, and stays so with the next
pub next-of-order : (order xs : List Entry) (w : WindowModel) (e : Entry) → Agrees order w → xs ≡ take w.delivered order
    → held_at (w.delivered + 1) w.held ≡ Some e → xs ++ e ∷ [] ≡ take (w.delivered + 1) order
next-of-order order xs w e a front h = one-more order xs w.delivered e front (a w.delivered e h)
