-- Why traces are not put together.
use Rattle.std.specs.Prelude.{◌≡◌, ⊤, ℕ, zero, suc, ◌+◌, Bool, true, Option, Some, List, map, length, find, slice_get, is_some, unwrap_or}
use Rattle.std.specs.Borrow.{Bor}
use Rattle.std.specs.List.{Contains, position_from}
use Rattle.std.specs.Option.{option_and_then}
use Rattle.trace_props.specs.declared.event.Event.{Event}
use Rattle.trace_merge.specs.declared.fact.Fact.{Fact}
use Rattle.trace_merge.specs.declared.merging.MergeError.{MergeError}
use Rattle.trace_merge.specs.declared.merging.MergeError.TheVariants.{Unordered, Memory}
use Rattle.trace_merge.specs.Facts.{waits_for, is_shown}
use Rattle.trace_merge.specs.Merges.{events_at, next_at, HaveNoOrder, HaveCome, NoneIsFree}

-- what slices show
abbrev pub slice_of : Bor (List Event) → List Event
slice_of b = b.now

abbrev pub slices : List (Bor (List Event)) → List (List Event)
slices left = map slice_of left

-- ---- who waits for whom

-- the next event of a process waits for what is awaited, and an event that is left of another shows it
pub record WaitsForOne (left : List (List Event)) (awaited : Fact → Bool) (j k : ℕ) : Type 0 where
  pub event : Event
  pub fact : Fact
  pub next : next_at left j ≡ Some event
  pub waits : Contains (waits_for event) fact
  pub is_awaited : awaited fact ≡ true
  pub shown : is_shown (events_at left k) fact ≡ true

-- one waits for another, or for one that waits for it
pub data WaitsFor (left : List (List Event)) (awaited : Fact → Bool) : ℕ → ℕ → Type 0 where
  One : (j k : ℕ) → WaitsForOne left awaited j k → WaitsFor left awaited j k
  More : (j k l : ℕ) → WaitsFor left awaited j k → WaitsForOne left awaited k l → WaitsFor left awaited j l

-- all have come that can, and of a process all but so many are left: it waits for itself, by way of others or not
pub record WaitsInCircle (processes : List (List Event)) (k n : ℕ) : Type 0 where
  pub left : List (List Event)
  pub awaited : Fact → Bool
  pub t : List Event
  pub come : HaveCome processes left awaited t
  pub none : NoneIsFree left awaited
  pub behind : n + length (events_at left k) ≡ length (events_at processes k)
  pub circle : WaitsFor left awaited k k

-- the process of which an event is left that shows what the next event of a process waits for; and so many steps on
abbrev pub awaits_at : List (List Event) → (Fact → Bool) → ℕ → Option ℕ
awaits_at left awaited k = option_and_then (λ e. option_and_then (λ f. position_from (λ events. is_shown events f) 0 left) (find awaited (waits_for e))) (next_at left k)

abbrev pub followed : List (List Event) → (Fact → Bool) → ℕ → ℕ → ℕ
followed left awaited k zero = k
followed left awaited k (suc n) = unwrap_or (awaits_at left awaited (followed left awaited k n)) (followed left awaited k n)

-- ---- why

-- they have no order, and a process has this event, at which it waits in a circle; both numbers count from 1
pub record AreUnordered (processes : List (List Event)) (process event : ℕ) : Type 0 where
  pub have_none : HaveNoOrder processes
  pub k : ℕ
  pub n : ℕ
  pub process_is : process ≡ k + 1
  pub event_is : event ≡ n + 1
  pub there : is_some (slice_get (events_at processes k) n) ≡ true
  pub circle : WaitsInCircle processes k n

abbrev pub IsWhy : List (List Event) → MergeError → Type 0
IsWhy processes (Unordered process event) = AreUnordered processes process event
IsWhy processes Memory = ⊤
