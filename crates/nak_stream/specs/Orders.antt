-- When what is held is what one order of a view's messages says.
use Rattle.std.specs.Prelude.{◌≡◌, ℕ, ◌+◌, ◌-◌, ◌≤◌, List, [], ◌∷◌, ◌++◌, length, take, drop, Some, slice_get}
use Rattle.wire_values.specs.Values.{Entry, held_at}
use Rattle.nak_stream.specs.Windows.{WindowModel, taken, delivering, collected}

-- each entry that the window holds stands in the order at its number, which is counted from 1
abbrev pub Agrees : List Entry → WindowModel → Type 0
Agrees order w = (k : ℕ) (e : Entry) → held_at (k + 1) w.held ≡ Some e → slice_get order k ≡ Some e

-- ---- laws of windows that agree with an order

-- what a window that agrees with an order becomes still agrees with it, and with each order that has all of it
pub record GoesOnAgreeing (order : List Entry) (w : WindowModel) : Type 0 where
  pub taken : (k : ℕ) (e : Entry) → slice_get order k ≡ Some e → Agrees order (taken (k + 1) e w)
  pub delivering : Agrees order (delivering w)
  pub collected : (t : ℕ) → Agrees order (collected t w)
  pub longer : (more : List Entry) → ((k : ℕ) (e : Entry) → slice_get order k ≡ Some e → slice_get more k ≡ Some e) → Agrees more w

abbrev pub AgreeingIsKept : Type 0
AgreeingIsKept = (order : List Entry) (w : WindowModel) → Agrees order w → GoesOnAgreeing order w

-- what was delivered is a beginning of the order, and with the next it is one again
abbrev pub NextIsOfOrder : Type 0
NextIsOfOrder = (order xs : List Entry) (w : WindowModel) (e : Entry) → Agrees order w → xs ≡ take w.delivered order
    → held_at (w.delivered + 1) w.held ≡ Some e → xs ++ e ∷ [] ≡ take (w.delivered + 1) order

-- two windows that agree with one order hold the same where both hold something
abbrev pub WindowsAgree : Type 0
WindowsAgree = (order : List Entry) (v w : WindowModel) (k : ℕ) (e f : Entry) → Agrees order v → Agrees order w
    → held_at (k + 1) v.held ≡ Some e → held_at (k + 1) w.held ≡ Some f → e ≡ f

-- ---- laws of the beginnings of one list

-- of two beginnings of one list the shorter is a beginning of the longer
abbrev pub ShorterBegins : Type 0 → Type 0
ShorterBegins X = (order xs ys : List X) (m n : ℕ) → xs ≡ take m order → ys ≡ take n order → m ≤ n → xs ≡ take m ys

-- the first d of a list, and those of its items base + 1, base + 2, .. that lie past them, are its beginning up to the last item: what was
-- delivered, merged with a cut that begins at or below it and reaches at least as far
abbrev pub MergedBegins : Type 0 → Type 0
MergedBegins X = (order items : List X) (base d : ℕ) → ((j : ℕ) (x : X) → slice_get items j ≡ Some x → slice_get order (base + j) ≡ Some x)
    → base ≤ d → d ≤ base + length items → take d order ++ drop (d - base) items ≡ take (base + length items) order
