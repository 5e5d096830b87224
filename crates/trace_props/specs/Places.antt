-- How rules stand along a list of events: of each event given what stands before it, or of each beginning.
use Rattle.std.specs.Prelude.{◌≡◌, ℕ, List, length, take, slice_get, Some}

-- the rule holds of each event, given all that stands before it
abbrev pub EachEvent : {H : Type 0} → (List H → H → Type 0) → List H → Type 0
EachEvent {H} Rule t = (k : ℕ) (h : H) → slice_get t k ≡ Some h → Rule (take k t) h

-- the rule holds of each beginning, the whole list among them
abbrev pub EachPlace : {H : Type 0} → (List H → Type 0) → List H → Type 0
EachPlace Rule t = (k : ℕ) → Rule (take k t)

-- the first list is a beginning of the second
abbrev pub IsBeginningOf : {X : Type 0} → List X → List X → Type 0
IsBeginningOf xs ys = xs ≡ take (length xs) ys
