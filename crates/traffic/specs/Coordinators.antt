-- What holds of the coordinator of a view, and what it does.
use Rattle.std.specs.Prelude.{◌≡◌, ℕ, ◌<◌, true, List, [], ◌∷◌, None}
use Rattle.address.specs.Ids.{Address, same_address}
use Rattle.wire_values.specs.Values.{Entry, held_at}
use Rattle.state_transfer.specs.Meanings.{Meaning}
use Rattle.nak_stream.specs.Windows.{taken, delivering, collected}
use Rattle.sequencer.specs.Forwards.{pushed}
use Rattle.sequencer.specs.Queues.{ordering, forwarded}
use Rattle.stability.specs.Counts.{members_of, noted, stable_count}
use Rattle.law_acts.specs.Acts.{delivery}
use Rattle.traffic.specs.declared.coordinator.Coordinator.{Coordinator}
use Rattle.traffic.specs.ViewStates.{senders_of, after_delivery}
use Rattle.step_output.specs.Outputs.{Grows}
use Rattle.step_output.specs.Steps.{Who}
use Rattle.traffic.specs.InViews.{InView}

-- ---- what holds of it

-- it made the view; counts, queues and order are those of its members; nothing is held past what was ordered
pub record IsCoordinator (p : Address) (m : Coordinator) : Type 0 where
  pub coordinator : same_address p m.view.id.creator ≡ true
  pub heard : members_of m.acks ≡ m.view.members
  pub senders : senders_of m.orderer.queues ≡ m.view.members
  pub ordered : m.orderer.ordered ≡ m.window.delivered
  pub top : (g : ℕ) → m.window.delivered < g → held_at g m.window.held ≡ None

-- ---- what it does

-- a message was offered to be ordered
abbrev pub queued : Address → ℕ → List ℕ → Coordinator → Coordinator
queued p n x m = record m { orderer = forwarded p n x m.orderer }

-- what it keeps after a message was ordered and delivered
abbrev pub after_one : Address → ℕ × Entry → Coordinator → Coordinator
after_one p n m = record m {
  window = delivering (taken n.0 n.1 m.window);
  forwards = after_delivery p n.1 m.forwards;
  orderer = ordering m.window.stable m.orderer;
}

-- the same in two: the message leaves its queue, and is delivered; it is held at its number
abbrev pub served_one : Address → Entry → Coordinator → Coordinator
served_one p e m = record m { forwards = after_delivery p e m.forwards; orderer = ordering m.window.stable m.orderer }

abbrev pub holding : ℕ × Entry → Coordinator → Coordinator
holding n m = record m { window = delivering (taken n.0 n.1 m.window) }

-- the next message leaves its queue, and is delivered
pub record ServesOne {S : Type 0} (meaning : Meaning S) (who : Who) (n : ℕ × Entry) (old new : InView Coordinator S) : Type 0 where
  pub now : new.part ≡ served_one who.address n.1 old.part
  pub state : new.state ≡ meaning.apply old.state n.1.sender n.1.payload
  pub grows : Grows who.group old.out new.out [] (delivery who.address old.part.view.id n.1 ∷ [])

-- the next message is ordered and delivered
pub record OrdersOne {S : Type 0} (meaning : Meaning S) (who : Who) (n : ℕ × Entry) (old new : InView Coordinator S) : Type 0 where
  pub now : new.part ≡ after_one who.address n old.part
  pub state : new.state ≡ meaning.apply old.state n.1.sender n.1.payload
  pub grows : Grows who.group old.out new.out [] (delivery who.address old.part.view.id n.1 ∷ [])

-- an acknowledgement was taken, and what is stable let go of
abbrev pub acknowledged : Address → ℕ → Coordinator → Coordinator
acknowledged p n m = record m { acks = noted p n m.acks; window = collected (stable_count (noted p n m.acks)) m.window }

-- a message of its own is outstanding
abbrev pub pushing : List ℕ → Coordinator → Coordinator
pushing x m = record m { forwards = pushed x m.forwards }
