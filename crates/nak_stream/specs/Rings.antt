-- The window's slots: those of the numbers after the stable count, each with the entry that is held there, or none.
use Rattle.std.specs.Prelude.{◌≡◌, ℕ, suc, List, [], ◌∷◌, Option, None, Some, length}
use Rattle.circular_buffer.specs.Buffer.{Buffer}
use Rattle.address.specs.declared.limits.TheConstants.{WINDOW}
use Rattle.wire_values.specs.Values.{Entry}
use Rattle.nak_stream.specs.Windows.{IsWindow}

-- the entries that stand in slots, each with its slot's number, where the first slot's is the one after `before`
abbrev pub numbered : ℕ → List (Option Entry) → List (ℕ × Entry)
numbered before [] = []
numbered before (None ∷ slots) = numbered (suc before) slots
numbered before (Some e ∷ slots) = (suc before, e) ∷ numbered (suc before) slots

-- all slots stand, and there is room for no more
pub record IsFull (slots : Buffer (Option Entry)) : Type 0 where
  pub all : length slots.items ≡ WINDOW
  pub room : slots.capacity ≡ WINDOW

-- what holds of the slots of each window
pub record IsRing (stable delivered : ℕ) (slots : Buffer (Option Entry)) : Type 0 where
  pub full : IsFull slots
  pub window : IsWindow (record { stable = stable; delivered = delivered; held = numbered stable slots.items })
