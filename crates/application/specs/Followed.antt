-- What a node knows by the events of its member.
use Rattle.std.specs.Prelude.{◌≡◌, ℕ, List, [], ◌∷◌, ◌++◌, Option, None, Some, fold, unwrap_or, if◌then◌else◌}
use Rattle.std.specs.Option.{option_and_then}
use Rattle.address.specs.Ids.{Address, ViewId, same_address}
use Rattle.state_transfer.specs.Meanings.{Meaning}
use Rattle.trace_props.specs.declared.event.Event.{Event}
use Rattle.trace_props.specs.declared.event.Delivery.{Delivery}
use Rattle.trace_props.specs.declared.event.Install.{Install}
use Rattle.trace_props.specs.Observed.{view_after}
use Rattle.trace_props.specs.State.{state_after}
use Rattle.application.specs.declared.waiting.Waiting.{Waiting}
use Rattle.application.specs.Places.{next_place, place_after}
use Rattle.application.specs.Waits.{ticket_of, others_of}
use Rattle.application.specs.Services.{of_own}

-- the member's address and view, how many messages were delivered there, the state at that place, and which ticket waits for which of its own messages
pub record Followed (S : Type 0) : Type 0 where
  pub own : Address
  pub view : Option ViewId
  pub place : ℕ
  pub copy : S
  pub waiting : List Waiting

-- nothing happened yet
abbrev pub nothing_followed : {S : Type 0} → Meaning S → Address → Followed S
nothing_followed meaning own = record { own = own; view = None; place = 0; copy = meaning.opening; waiting = [] }

-- a message of this number was sent for a ticket
abbrev pub noting : {S : Type 0} → ℕ → ℕ → Followed S → Followed S
noting number ticket f = record f { waiting = f.waiting ++ record { number = number; ticket = ticket } ∷ [] }

-- the ticket that waits for a message: none waits for one of another member
abbrev pub due : {S : Type 0} → Delivery → Followed S → Option ℕ
due d f = if same_address d.message.sender f.own then ticket_of d.message.number f.waiting else None

-- those that wait on
abbrev pub not_due : {S : Type 0} → Delivery → Followed S → List Waiting
not_due d f = if same_address d.message.sender f.own then others_of d.message.number f.waiting else f.waiting

-- the member delivers a message
abbrev pub after_delivery : {S : Type 0} → Meaning S → Delivery → Followed S → Followed S
after_delivery meaning d f = record f { place = next_place f.place; copy = meaning.apply f.copy d.message.sender d.message.payload; waiting = not_due d f }

-- the state that an install gives, or the one that there was
abbrev pub state_in : {S : Type 0} → Meaning S → Install → Followed S → S
state_in meaning i f = unwrap_or (option_and_then meaning.decode i.given) f.copy

-- the member installs a view: its messages of the view before are handed back, and nothing waits
abbrev pub after_install : {S : Type 0} → Meaning S → Install → Followed S → Followed S
after_install meaning i f = record f { view = Some i.view.id; place = 0; copy = state_in meaning i f; waiting = [] }

-- one event; those of other members leave it as it is
abbrev pub after_event : {S : Type 0} → Meaning S → Followed S → Event → Followed S
after_event meaning f h = of_own f.own (λ d. after_delivery meaning d f) (λ i. after_install meaning i f) f h

-- it knows the view, the place and the state that the events say
pub record Follows {S : Type 0} (meaning : Meaning S) (old new : Followed S) (t : List Event) : Type 0 where
  pub own : new.own ≡ old.own
  pub view : new.view ≡ fold (view_after old.own) old.view t
  pub place : new.place ≡ fold (place_after old.own) old.place t
  pub copy : new.copy ≡ fold (state_after meaning old.own) old.copy t
