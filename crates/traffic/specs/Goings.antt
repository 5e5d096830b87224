-- How a member goes on: by acts alone, with what they put out and what happens by them.
use Rattle.std.specs.Prelude.{◌≡◌, ℕ, true, List, Option, Some, None}
use Rattle.address.specs.Ids.{Address, ViewId}
use Rattle.view.specs.Members.{View}
use Rattle.wire_values.specs.Values as wire
use Rattle.wire_values.specs.Posted.{Posted}
use Rattle.state_transfer.specs.Meanings.{Meaning}
use Rattle.trace_props.specs.declared.event.Event.{Event}
use Rattle.trace_props.specs.declared.event.Sending.{Sending}
use Rattle.law_acts.specs.Chains.{Acted}
use Rattle.law_acts.specs.Cores.{ViewCore, Core}
use Rattle.step_output.specs.Outputs.{Grows}
use Rattle.traffic.specs.declared.coordinator.Coordinator.{Coordinator}
use Rattle.traffic.specs.declared.follower.Follower.{Follower}
use Rattle.traffic.specs.ViewStates.{coordinator_core, follower_core}
use Rattle.traffic.specs.Coordinators.{IsCoordinator}
use Rattle.step_output.specs.Steps.{Who}
use Rattle.traffic.specs.InViews.{InView, in_view}

-- what a member keeps beside its view's messages: what it sent to the others of the view that it made, the state that it gave to them in chunks, and the chunks
-- that it holds
pub record Beside : Type 0 where
  pub sent_installs : List (Address × wire.Install)
  pub kept_state : Option (List ℕ)
  pub chunks : List (ViewId × wire.Chunk)

-- open in a view, with nothing else promised
abbrev pub open_core : {S : Type 0} → Address → View → Beside → ViewCore → S → Core S
open_core p v kept t s = record {
  me = p;
  connected = true;
  promise = Some v;
  installed = true;
  view = Some v;
  view_state = t;
  flush = None;
  sent_installs = kept.sent_installs;
  kept_state = kept.kept_state;
  chunks = kept.chunks;
  state = s;
}

-- on a packet that came, a member that is open in a view went on so, by acts alone; what it keeps beside does not matter
pub record Goes {S : Type 0} (meaning : Meaning S) (came : Option Posted) (who : Who) (v : View) (old new : InView ViewCore S) : Type 0 where
  pub posted : List Posted
  pub happened : List Event
  pub acted : (kept : Beside)
      → Acted meaning came (Some (open_core who.address v kept old.part old.state)) posted happened (Some (open_core who.address v kept new.part new.state))
  pub grows : Grows who.group old.out new.out posted happened

-- the coordinator went on so, in its view, and is still what a coordinator is
pub record CoordinatorGoes {S : Type 0} (meaning : Meaning S) (came : Option Posted) (who : Who) (old new : InView Coordinator S) : Type 0 where
  pub goes : Goes meaning came who old.part.view (in_view (coordinator_core old.part) old.state old.out) (in_view (coordinator_core new.part) new.state new.out)
  pub view : new.part.view ≡ old.part.view
  pub coordinator : IsCoordinator who.address new.part

-- another member went on so, in its view
abbrev pub FollowerGoes : {S : Type 0} → Meaning S → Option Posted → Who → InView Follower S → InView Follower S → Type 0
FollowerGoes meaning came who old new =
    Goes meaning came who old.part.view (in_view (follower_core old.part) old.state old.out) (in_view (follower_core new.part) new.state new.out) × (new.part.view ≡ old.part.view)

-- a message that is sent, as it happens
abbrev pub sending : Address → ViewId → ℕ → List ℕ → Sending
sending p v n x = record { member = p; view = v; message = record { number = n; payload = x } }
