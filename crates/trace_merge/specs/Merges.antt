-- One list of the lists of several processes.
use Rattle.std.specs.Prelude.{◌≡◌, ℕ, Bool, nat_eq, List, [], ◌++◌, map, slice_get, is_some, slice_index_or, Option, true, false}
use Rattle.std.specs.List.{All, list_any, filter}
use Rattle.std.specs.Option.{option_map_or}
use Rattle.trace_props.specs.Places.{EachEvent}
use Rattle.trace_props.specs.Recorded.{Recorded, IsRecordable}
use Rattle.trace_props.specs.declared.event.Event.{Event}
use Rattle.trace_merge.specs.declared.fact.Fact.{Fact}
use Rattle.trace_merge.specs.Facts.{is_shown, is_awaited, is_free, MayCome, IsInOrder}

-- the events of some traces
abbrev pub events_in : Recorded → List Event
events_in r = r.events

abbrev pub lists_of : List Recorded → List (List Event)
lists_of traces = map events_in traces

-- the events of a process; none where there is no such process
abbrev pub events_at : List (List Event) → ℕ → List Event
events_at processes k = slice_index_or processes k []

-- an event, with the number of its process
pub record Came : Type 0 where
  pub process : ℕ
  pub event : Event

abbrev pub event_of : Came → Event
event_of c = c.event

-- what came of one process, in order
abbrev pub own : ℕ → List Came → List Event
own k came = map event_of (filter (λ c. nat_eq c.process k) came)

-- MERGE: all events of all processes, those of each in its order
pub record IsMerge (processes : List (List Event)) (t : List Event) : Type 0 where
  pub came : List Came
  pub events : map event_of came ≡ t
  pub own_events : (k : ℕ) → own k came ≡ events_at processes k

-- one that is in order; and that there is none such
pub record IsOrderedMerge (processes : List (List Event)) (t : List Event) : Type 0 where
  pub merge : IsMerge processes t
  pub in_order : IsInOrder t

abbrev pub HaveNoOrder : List (List Event) → Type 0
HaveNoOrder processes = (t : List Event) → IsOrderedMerge processes t → ⊥

-- ---- while they are put together

-- whether an event of some process shows something
abbrev pub comes_in : List (List Event) → Fact → Bool
comes_in processes f = list_any (λ events. is_shown events f) processes

-- the next event of a process, of those that are left of each
abbrev pub next_at : List (List Event) → ℕ → Option Event
next_at left k = slice_get (events_at left k) 0

abbrev pub has_next : List Event → Bool
has_next events = is_some (slice_get events 0)

-- these came, in order, and those are left; all that is awaited of them is yet to come
pub record HaveCome (processes left : List (List Event)) (awaited : Fact → Bool) (t : List Event) : Type 0 where
  pub came : List Came
  pub events : map event_of came ≡ t
  pub own_events : (k : ℕ) → own k came ++ events_at left k ≡ events_at processes k
  pub ordered : EachEvent (MayCome (comes_in processes)) t
  pub awaits : (f : Fact) → awaited f ≡ is_awaited (comes_in processes) t f

-- whether there is a next event that waits for nothing
abbrev pub starts_free : (Fact → Bool) → List Event → Bool
starts_free awaited events = option_map_or (is_free awaited) (slice_get events 0) false

-- a process has such a one; and none has one
abbrev pub IsFreeAt : List (List Event) → (Fact → Bool) → ℕ → Type 0
IsFreeAt left awaited k = starts_free awaited (events_at left k) ≡ true

abbrev pub NoneIsFree : List (List Event) → (Fact → Bool) → Type 0
NoneIsFree left awaited = (k : ℕ) → starts_free awaited (events_at left k) ≡ false

-- nothing is left of any process
abbrev pub NoneIsLeft : List (List Event) → Type 0
NoneIsLeft left = (k : ℕ) → has_next (events_at left k) ≡ false

-- the events of each may be recorded
abbrev pub AreRecordable : List (List Event) → Type 0
AreRecordable left = All IsRecordable left
