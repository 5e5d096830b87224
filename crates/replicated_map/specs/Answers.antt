-- What a service knows after events, and what its answers say of them.
use Rattle.std.specs.Prelude.{◌≡◌, ◌⊎◌, ℕ, true, List, [], map, fold, take, slice_get, Some, count_by, ◌==◌}
use Rattle.std.specs.List.{Contains}
use Rattle.address.specs.Ids.{same_address}
use Rattle.trace_props.specs.declared.event.Event.{Event}
use Rattle.trace_props.specs.declared.event.Event.TheVariants.{Delivered, Installed}
use Rattle.trace_props.specs.declared.event.Delivery.{Delivery}
use Rattle.trace_props.specs.declared.event.Install.{Install}
use Rattle.trace_props.specs.State.{state_after}
use Rattle.replicated_map.specs.Meanings.{map_meaning}
use Rattle.replicated_map.specs.Outcomes.{outcome_at}
use Rattle.application.specs.declared.waiting.Waiting.{Waiting}
use Rattle.application.specs.Waits.{ticket_of, waits_with}
use Rattle.application.specs.Places.{next_place, place_after}
use Rattle.application.specs.Services.{of_own, answers_given}
use Rattle.application.specs.Followed.{due}
use Rattle.replicated_map.specs.declared.waiting.Answer.{Answer}
use Rattle.replicated_map.specs.declared.waiting.Fate.TheVariants as fate
use Rattle.replicated_map.specs.Serving.{Serving, heard, answered, fate_of, back}

abbrev pub heard_all : Serving → List Event → Serving
heard_all s t = fold heard s t

-- ---- answers

-- the answers that an event gives: an own delivery answers the ticket that waits for it, and an own install all that wait
abbrev pub answers_by : Serving → Event → List Answer
answers_by s h = of_own s.followed.own (λ d. answered (due d s.followed) (fate_of d s)) (λ i. map back s.followed.waiting) [] h

-- those that events give, one after another
abbrev pub answers_to : Serving → List Event → List Answer
answers_to s t = answers_given heard answers_by s t

-- DELIVERED: the event at k is the delivery of an own message, for which the ticket waits. The answer names its view and its place, and what becomes of its command at the state right before it
pub record IsDeliveredAt (s : Serving) (t : List Event) (k : ℕ) (d : Delivery) (a : Answer) : Type 0 where
  pub event : slice_get t k ≡ Some (Delivered d)
  pub here : same_address d.member s.followed.own ≡ true
  pub own : same_address d.message.sender s.followed.own ≡ true
  pub waits : ticket_of d.message.number (heard_all s (take k t)).followed.waiting ≡ Some a.ticket
  pub fate : a.fate ≡ fate.Delivered d.view (next_place (fold (place_after s.followed.own) s.followed.place (take k t))) (outcome_at (fold (state_after map_meaning s.followed.own) s.followed.copy (take k t)) d.message.payload)

-- HANDED BACK: the event at k is an own install, and the ticket waits as it happens
pub record IsHandedBackAt (s : Serving) (t : List Event) (k : ℕ) (i : Install) (a : Answer) : Type 0 where
  pub event : slice_get t k ≡ Some (Installed i)
  pub here : same_address i.member s.followed.own ≡ true
  pub waits : (w : Waiting) × Contains (heard_all s (take k t)).followed.waiting w × (w.ticket ≡ a.ticket)
  pub fate : a.fate ≡ fate.HandedBack

-- an answer says what happened
abbrev pub IsTrueAnswer : Serving → List Event → Answer → Type 0
IsTrueAnswer s t a = ((k : ℕ) × (d : Delivery) × IsDeliveredAt s t k d a) ⊎ ((k : ℕ) × (i : Install) × IsHandedBackAt s t k i a)

-- ---- tickets

-- how often a ticket waits, and how often it is answered
abbrev pub waits_often : ℕ → Serving → ℕ
waits_often ticket s = waits_with ticket s.followed.waiting

abbrev pub answered_often : ℕ → Serving → ℕ
answered_often ticket s = count_by (λ a. a.ticket == ticket) s.answers
