-- A sender's slots: those of the numbers after the ordered ones, each with the payload of the message that waits under it, or none.
use Rattle.std.specs.Prelude.{◌≡◌, ◌≤◌, ℕ, suc, Bool, true, false, List, [], ◌∷◌, Option, None, Some, length}
use Rattle.std.specs.List.{AllByRecursion}
use Rattle.circular_buffer.specs.Buffer.{Buffer}
use Rattle.address.specs.declared.limits.TheConstants.{OUTSTANDING, GREATEST_NUMBER}
use Rattle.trace_props.specs.declared.event.Numbered.{Numbered}

-- the messages whose payloads stand in slots, each with its slot's number, where the first slot's is the one after `before`
abbrev pub numbered : ℕ → List (Option (List ℕ)) → List Numbered
numbered before [] = []
numbered before (None ∷ slots) = numbered (suc before) slots
numbered before (Some x ∷ slots) = record { number = suc before; payload = x } ∷ numbered (suc before) slots

-- whether a payload stands in the first slot
abbrev pub is_first : List (Option (List ℕ)) → Bool
is_first [] = false
is_first (None ∷ slots) = false
is_first (Some x ∷ slots) = true

-- all slots stand, and there is room for no more
pub record IsFull (slots : Buffer (Option (List ℕ))) : Type 0 where
  pub all : length slots.items ≡ OUTSTANDING
  pub room : slots.capacity ≡ OUTSTANDING

-- what holds of the slots of each queue
pub record IsRing (ordered : ℕ) (slots : Buffer (Option (List ℕ))) : Type 0 where
  pub full : IsFull slots
  pub small : AllByRecursion (λ f. f.number ≤ GREATEST_NUMBER) (numbered ordered slots.items)
