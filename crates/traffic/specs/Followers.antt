-- What a member of a view other than its coordinator does.
use Rattle.std.specs.Prelude.{◌≡◌, ℕ, ◌+◌, [], ◌∷◌, Option, Some}
use Rattle.address.specs.Ids.{Address}
use Rattle.view.specs.Members.{View}
use Rattle.wire_values.specs.Values.{Entry}
use Rattle.state_transfer.specs.Meanings.{Meaning}
use Rattle.nak_stream.specs.Windows.{taken, collected}
use Rattle.law_acts.specs.Acts.{delivery}
use Rattle.wire_values.specs.declared.packet.Body.TheVariants as bodies
use Rattle.wire_values.specs.Posted.{Posted, packet}
use Rattle.traffic.specs.declared.follower.Follower.{Follower}
use Rattle.step_output.specs.Outputs.{Grows}
use Rattle.traffic.specs.ViewStates.{after_delivery}
use Rattle.step_output.specs.Steps.{Who}
use Rattle.traffic.specs.InViews.{InView}

-- it delivers the next message that it holds
pub record DeliversOne {S : Type 0} (meaning : Meaning S) (who : Who) (e : Entry) (old new : InView Follower S) : Type 0 where
  pub now : new.part ≡ record (old.part) { window = record (old.part.window) { delivered = old.part.window.delivered + 1 }; forwards = after_delivery who.address e old.part.forwards }
  pub state : new.state ≡ meaning.apply old.state e.sender e.payload
  pub grows : Grows who.group old.out new.out [] (delivery who.address old.part.view.id e ∷ [])

abbrev pub collected_to : ℕ → Follower → Follower
collected_to t m = record m { window = collected t m.window }

abbrev pub held_too : ℕ → Entry → Follower → Follower
held_too g e m = record m { window = taken g e m.window }

abbrev pub order_packet : Address → View → ℕ → Entry → Option Posted
order_packet p v g e = Some (packet v.id.creator (bodies.Order v.id g e) p)
