-- What the coordinator of a view must do, and has done: it ordered all that may be ordered, one after another.
use Rattle.std.specs.Prelude.{◌≡◌, ℕ, ◌+◌, ◌-◌, ◌≤◌, true, false, List, [], ◌∷◌, ◌++◌, map, length, None, Some, MatchOption, Bool}
use Rattle.address.specs.Ids.{Address, same_address}
use Rattle.view.specs.Members.{View}
use Rattle.wire_values.specs.Values.{Entry}
use Rattle.wire_values.specs.declared.packet.Body.TheVariants as bodies
use Rattle.wire_values.specs.Posted.{Posted, packet}
use Rattle.std.specs.List.{find}
use Rattle.address.specs.declared.limits.TheConstants.{WINDOW}
use Rattle.state_transfer.specs.Meanings.{Meaning}
use Rattle.stability.specs.Counts.{count_of, stable_count}
use Rattle.sequencer.specs.Forwards.{ForwardsModel}
use Rattle.sequencer.specs.Queues.{Queue, is_from, next_ordered}
use Rattle.law_acts.specs.Cores.{applied}
use Rattle.law_acts.specs.Acts.{delivery, others_of}
use Rattle.traffic.specs.declared.coordinator.Coordinator.{Coordinator}
use Rattle.step_output.specs.declared.output.Output.{Output}
use Rattle.trace_props.specs.declared.event.Event.TheVariants.{Sent}
use Rattle.traffic.specs.Coordinators.{pushing, after_one, acknowledged, queued}
use Rattle.traffic.specs.Goings.{sending}
use Rattle.step_output.specs.Outputs.{Grows}
use Rattle.step_output.specs.Steps.{Who}
use Rattle.traffic.specs.InViews.{InView, in_view}

-- a message was ordered, delivered, and acknowledged by the coordinator itself
abbrev pub turned : Address → Entry → Coordinator → Coordinator
turned p e m = acknowledged p (after_one p (m.orderer.ordered + 1, e) m).window.delivered (after_one p (m.orderer.ordered + 1, e) m)

-- the ORDERs of a message, to each other member by rank
abbrev pub order_of : Address → View → ℕ → Entry → List Posted
order_of p v g e = map (packet p (bodies.Order v.id g e)) (others_of p v.members)

-- those of several, with rising numbers past one
abbrev pub orders_of : Address → View → ℕ → List Entry → List Posted
orders_of p v k [] = []
orders_of p v k (e ∷ entries) = order_of p v (k + 1) e ++ orders_of p v (k + 1) entries

-- these messages were ordered, each where it came next
pub data TurnsTo (p : Address) : Coordinator → List Entry → Coordinator → Type 0 where
  Starts : (m : Coordinator) → TurnsTo p m [] m
  Turns : (m n : Coordinator) (entries : List Entry) (e : Entry) → TurnsTo p m entries n → next_ordered n.window.stable n.orderer ≡ Some e → TurnsTo p m (entries ++ e ∷ []) (turned p e n)

-- one turn
pub record TurnsOne {S : Type 0} (meaning : Meaning S) (who : Who) (e : Entry) (old new : InView Coordinator S) : Type 0 where
  pub now : new.part ≡ turned who.address e old.part
  pub state : new.state ≡ meaning.apply old.state e.sender e.payload
  pub grows : Grows who.group old.out new.out (order_of who.address old.part.view (old.part.orderer.ordered + 1) e) (delivery who.address old.part.view.id e ∷ [])

abbrev pub TurnsNext : {S : Type 0} → Meaning S → Who → Bool → InView Coordinator S → InView Coordinator S → Type 0
TurnsNext meaning who more old new =
    MatchOption (next_ordered old.part.window.stable old.part.orderer)
    ((more ≡ false) × (new.part ≡ old.part) × (new.state ≡ old.state) × (new.out ≡ old.out))
    (λ e. (more ≡ true) × TurnsOne meaning who e old new)

-- several turns: exactly what is delivered, and put out
pub record Ordering {S : Type 0} (meaning : Meaning S) (who : Who) (old new : InView Coordinator S) : Type 0 where
  pub entries : List Entry
  pub turns : TurnsTo who.address old.part entries new.part
  pub state : new.state ≡ applied meaning old.state entries
  pub grows : Grows who.group old.out new.out (orders_of who.address old.part.view old.part.orderer.ordered entries) (map (delivery who.address old.part.view.id) entries)
  pub view : new.part.view ≡ old.part.view
  pub ordered : new.part.orderer.ordered ≡ old.part.orderer.ordered + length entries
  pub heard : (q : Address) → same_address q who.address ≡ false → count_of q new.part.acks ≡ count_of q old.part.acks

-- all is ordered that may be: no message is left that may be ordered
abbrev pub OrdersAll : {S : Type 0} → Meaning S → Who → InView Coordinator S → InView Coordinator S → Type 0
OrdersAll meaning who old new = Ordering meaning who old new × (next_ordered new.part.window.stable new.part.orderer ≡ None)

-- ---- what holds between its steps, beside what its acts need

-- the own queue: its messages that are outstanding, all of them, in turn
abbrev pub own_queue : Address → ForwardsModel → Queue
own_queue p f = record { sender = p; ordered = f.sent - length f.rest; waiting = f.rest }

-- acknowledgements, the stable count and the own queue are what was ordered and delivered
pub record IsSettled (p : Address) (m : Coordinator) : Type 0 where
  -- nobody acknowledged more than was delivered here, and it acknowledged that itself
  pub heard : (q : Address) → count_of q m.acks ≤ m.window.delivered
  pub own_acked : count_of p m.acks ≡ m.window.delivered
  pub least : m.window.stable ≡ stable_count m.acks
  pub own : find (is_from p) m.orderer.queues ≡ Some (own_queue p m.forwards)

-- at most `WINDOW` events more
abbrev pub IsFew : Output → Output → Type 0
IsFew old new = length new.events.items ≤ length old.events.items + WINDOW

-- ---- a message of its own

abbrev pub own_entry : Address → Coordinator → List ℕ → Entry
own_entry p m x = record { sender = p; number = m.forwards.sent + 1; payload = x }

-- it is sent, it waits, and all is ordered that may be
pub record SendsOrdering {S : Type 0} (meaning : Meaning S) (who : Who) (x : List ℕ) (old new : InView Coordinator S) : Type 0 where
  pub between : Output
  pub sent : Grows who.group old.out between [] (Sent (sending who.address old.part.view.id (old.part.forwards.sent + 1) x) ∷ [])
  pub orders : Ordering meaning who (in_view (queued who.address (old.part.forwards.sent + 1) x (pushing x old.part)) old.state between) new
  pub done : next_ordered new.part.window.stable new.part.orderer ≡ None

-- it is delivered at once
pub record DeliversOwnAtOnce (p : Address) (x : List ℕ) (old : Coordinator) (out more : Output) : Type 0 where
  pub rest : List Entry
  pub happens : more.events.items ≡ out.events.items ++ Sent (sending p old.view.id (old.forwards.sent + 1) x) ∷ map (delivery p old.view.id) (own_entry p old x ∷ rest)

-- one event more than few
abbrev pub IsFewMore : Output → Output → Type 0
IsFewMore old new = length new.events.items ≤ length old.events.items + (WINDOW + 1)
