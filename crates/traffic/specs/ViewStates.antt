-- What a member keeps of its view, in the words of the law of agreement.
use Rattle.std.specs.Prelude.{ℕ, List, [], ◌∷◌, map, if◌then◌else◌}
use Rattle.std.specs.List.{flat_map}
use Rattle.address.specs.Ids.{Address, same_address}
use Rattle.view.specs.Members.{View}
use Rattle.wire_values.specs.Values.{Entry}
use Rattle.nak_stream.specs.Windows.{empty_window}
use Rattle.sequencer.specs.Forwards.{ForwardsModel, no_forwards, one_delivered}
use Rattle.sequencer.specs.Queues.{Queue, idle, entry_with}
use Rattle.stability.specs.Counts.{count_of, unheard}
use Rattle.law_acts.specs.Cores as cores
use Rattle.traffic.specs.declared.coordinator.Coordinator.{Coordinator}
use Rattle.traffic.specs.declared.follower.Follower.{Follower}
use Rattle.traffic.specs.declared.view_state.ViewState.{ViewState}
use Rattle.traffic.specs.declared.view_state.ViewState.TheVariants as kinds

-- ---- what waits to be ordered

abbrev pub waiting_in : Queue → List Entry
waiting_in q = map (entry_with q) q.waiting

abbrev pub waiting_of : List Queue → List Entry
waiting_of queues = flat_map waiting_in queues

-- how many of an address' messages were ordered
abbrev pub ordered_of : List Queue → Address → ℕ
ordered_of [] p = 0
ordered_of (q ∷ queues) p = if same_address p q.sender then q.ordered else ordered_of queues p

abbrev pub senders_of : List Queue → List Address
senders_of queues = map (λ q. q.sender) queues

-- ---- what is kept of the view

abbrev pub coordinator_core : Coordinator → cores.ViewCore
coordinator_core m = record {
  stable = m.window.stable;
  delivered = m.window.delivered;
  sent = m.forwards.sent;
  held = m.window.held;
  outstanding = m.forwards.rest;
  acks = λ p. count_of p m.acks;
  ordered = ordered_of m.orderer.queues;
  waiting = waiting_of m.orderer.queues;
}

abbrev pub follower_core : Follower → cores.ViewCore
follower_core m = record {
  stable = m.window.stable;
  delivered = m.window.delivered;
  sent = m.forwards.sent;
  held = m.window.held;
  outstanding = m.forwards.rest;
  acks = λ p. 0;
  ordered = λ p. 0;
  waiting = [];
}

abbrev pub view_core_of : ViewState → cores.ViewCore
view_core_of (kinds.Coordinator m) = coordinator_core m
view_core_of (kinds.Follower m) = follower_core m

abbrev pub view_of : ViewState → View
view_of (kinds.Coordinator m) = m.view
view_of (kinds.Follower m) = m.view

-- an own message that is delivered is outstanding no longer
abbrev pub after_delivery : Address → Entry → ForwardsModel → ForwardsModel
after_delivery p e w = if same_address e.sender p then one_delivered w else w

-- ---- at the beginning of a view

abbrev pub fresh_coordinator : View → Coordinator
fresh_coordinator v = record {
  view = v;
  window = empty_window;
  forwards = no_forwards;
  acks = map unheard v.members;
  orderer = record { ordered = 0; queues = map idle v.members };
}

abbrev pub fresh_follower : View → Follower
fresh_follower v = record { view = v; window = empty_window; forwards = no_forwards }

-- the coordinator of a view is the member that made it
abbrev pub fresh_in : Address → View → ViewState
fresh_in p v = if same_address p v.id.creator then kinds.Coordinator (fresh_coordinator v) else kinds.Follower (fresh_follower v)
