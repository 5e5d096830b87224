-- What a node that keeps the map knows by what happened to its member, and what it answers to those who wait.
use Rattle.std.specs.Prelude.{ℕ, List, [], ◌∷◌, ◌++◌, map, Option, None, Some}
use Rattle.address.specs.Ids.{Address}
use Rattle.trace_props.specs.declared.event.Event.{Event}
use Rattle.trace_props.specs.declared.event.Delivery.{Delivery}
use Rattle.trace_props.specs.declared.event.Install.{Install}
use Rattle.replicated_map.specs.Entries.{MapState}
use Rattle.replicated_map.specs.Meanings.{map_meaning}
use Rattle.replicated_map.specs.Outcomes.{outcome_at}
use Rattle.application.specs.declared.waiting.Waiting.{Waiting}
use Rattle.application.specs.Places.{next_place}
use Rattle.application.specs.Services.{of_own}
use Rattle.application.specs.Followed.{Followed, nothing_followed, noting, due, after_delivery, after_install}
use Rattle.replicated_map.specs.declared.waiting.Answer.{Answer}
use Rattle.replicated_map.specs.declared.waiting.Fate.{Fate}
use Rattle.replicated_map.specs.declared.waiting.Fate.TheVariants as fate

-- what it knows of its member, with the map, and the answers that nobody has taken
pub record Serving : Type 0 where
  pub followed : Followed MapState
  pub answers : List Answer

-- nothing happened yet
abbrev pub nothing_heard : Address → Serving
nothing_heard own = record { followed = nothing_followed map_meaning own; answers = [] }

-- a message of this number was sent for a ticket
abbrev pub noted : ℕ → ℕ → Serving → Serving
noted number ticket s = record s { followed = noting number ticket s.followed }

-- ---- answers

abbrev pub answer_of : ℕ → Fate → Answer
answer_of ticket f = record { ticket = ticket; fate = f }

-- the answer of who waits, if anybody does
abbrev pub answered : Option ℕ → Fate → List Answer
answered None f = []
answered (Some ticket) f = answer_of ticket f ∷ []

-- the answer of who waits as the view ends
abbrev pub back : Waiting → Answer
back w = answer_of w.ticket fate.HandedBack

-- ---- events

-- what became of a message that is delivered next
abbrev pub fate_of : Delivery → Serving → Fate
fate_of d s = fate.Delivered d.view (next_place s.followed.place) (outcome_at s.followed.copy d.message.payload)

-- its member delivers a message: the ticket that waits for it is answered
abbrev pub delivered : Delivery → Serving → Serving
delivered d s = record { followed = after_delivery map_meaning d s.followed; answers = s.answers ++ answered (due d s.followed) (fate_of d s) }

-- its member installs a view: all that wait are answered that their messages are handed back
abbrev pub installed : Install → Serving → Serving
installed i s = record { followed = after_install map_meaning i s.followed; answers = s.answers ++ map back s.followed.waiting }

-- one event; those of other members leave it as it is
abbrev pub heard : Serving → Event → Serving
heard s h = of_own s.followed.own (λ d. delivered d s) (λ i. installed i s) s h
