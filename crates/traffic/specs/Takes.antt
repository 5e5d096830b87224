-- What another member of a view must do, and has done, on an ORDER.
use Rattle.std.specs.Prelude.{◌≡◌, ℕ, ◌+◌, ◌-◌, ◌<◌, ◌≤◌, Bool, List, [], ◌∷◌, ◌++◌, map, Option, None, Some, IsSome, MatchBool, nat_lt, ◌⊎◌, zero, suc}
use Rattle.std.specs.Option.{option_map_or}
use Rattle.address.specs.declared.limits.TheConstants.{WINDOW}
use Rattle.trace_props.specs.declared.event.Numbered.{Numbered}
use Rattle.address.specs.Ids.{Address}
use Rattle.view.specs.Members.{View}
use Rattle.wire_values.specs.Values.{Entry, held_at, Missing, Progress}
use Rattle.wire_values.specs.declared.packet.Body.TheVariants as bodies
use Rattle.wire_values.specs.Posted.{Posted, packet}
use Rattle.state_transfer.specs.Meanings.{Meaning}
use Rattle.nak_stream.specs.Windows.{WindowModel, offers, collected, IsLeastGap, IsGreatestGap}
use Rattle.law_acts.specs.Cores.{applied}
use Rattle.law_acts.specs.Acts.{delivery}
use Rattle.traffic.specs.declared.follower.Follower.{Follower}
use Rattle.step_output.specs.declared.output.Output.{Output}
use Rattle.trace_props.specs.declared.event.Event.TheVariants.{Sent}
use Rattle.sequencer.specs.Forwards.{pushed}
use Rattle.traffic.specs.ViewStates.{after_delivery}
use Rattle.traffic.specs.Goings.{sending}
use Rattle.traffic.specs.Followers.{collected_to, held_too}
use Rattle.step_output.specs.Outputs.{Grows}
use Rattle.step_output.specs.Steps.{Who}
use Rattle.traffic.specs.InViews.{InView, in_view}

abbrev pub delivered_next : Address → Entry → Follower → Follower
delivered_next p e m = record m { window = record (m.window) { delivered = m.window.delivered + 1 }; forwards = after_delivery p e m.forwards }

-- it delivered these messages, each where it was held at the next number
pub data DeliversTo (p : Address) : Follower → List Entry → Follower → Type 0 where
  Starts : (m : Follower) → DeliversTo p m [] m
  DeliversMore : (m n : Follower) (entries : List Entry) (e : Entry) → DeliversTo p m entries n → held_at (n.window.delivered + 1) n.window.held ≡ Some e → DeliversTo p m (entries ++ e ∷ []) (delivered_next p e n)

-- it delivered all these, and nothing else was put out or happened
pub record DeliversHeld {S : Type 0} (meaning : Meaning S) (who : Who) (old new : InView Follower S) : Type 0 where
  pub entries : List Entry
  pub delivers : DeliversTo who.address old.part entries new.part
  pub state : new.state ≡ applied meaning old.state entries
  pub grows : Grows who.group old.out new.out [] (map (delivery who.address old.part.view.id) entries)
  pub view : new.part.view ≡ old.part.view

-- all is held from the delivered count up to a number
abbrev pub IsComplete : WindowModel → ℕ → Type 0
IsComplete w highest = (g : ℕ) → w.delivered < g → g ≤ highest → IsSome (held_at g w.held)

-- it asks for the least and the greatest number that it misses
pub record Asks (who : Who) (highest : ℕ) (m : Follower) (out more : Output) : Type 0 where
  pub missing : Missing
  pub least : IsLeastGap m.window highest missing.first
  pub greatest : IsGreatestGap m.window highest missing.last
  pub grows : Grows who.group out more (packet who.address (bodies.Nak m.view.id missing) m.view.id.creator ∷ []) []

abbrev pub AsksUpTo : Who → ℕ → Follower → Output → Output → Type 0
AsksUpTo who highest m out more = Asks who highest m out more ⊎ (IsComplete m.window highest × (more ≡ out))

abbrev pub ack_of : Address → Follower → Posted
ack_of p m = packet p (bodies.Ack m.view.id m.window.delivered) m.view.id.creator

-- one ACK where it has delivered more than before, else a NAK where the number was new
abbrev pub AnswersOrder : Who → ℕ → Bool → ℕ → Follower → Output → Output → Type 0
AnswersOrder who before new g m out more =
    MatchBool (nat_lt before m.window.delivered) (Grows who.group out more (ack_of who.address m ∷ []) []) (MatchBool new (AsksUpTo who g m out more) (more ≡ out))

-- what lies `WINDOW` below is stable, the entry is held, what is next is delivered, and it is answered
pub record TakesOrder {S : Type 0} (meaning : Meaning S) (who : Who) (g : ℕ) (e : Entry) (old new : InView Follower S) : Type 0 where
  pub between : Output
  pub delivers : DeliversHeld meaning who (in_view (held_too g e (collected_to (g - WINDOW) old.part)) old.state old.out) (in_view new.part new.state between)
  pub ready : held_at (new.part.window.delivered + 1) new.part.window.held ≡ None
  pub answers : AnswersOrder who old.part.window.delivered (offers g (collected (g - WINDOW) old.part.window)) g new.part between new.out

-- ---- a STATUS

abbrev pub status_packet : Address → View → Progress → Option Posted
status_packet p v a = Some (packet v.id.creator (bodies.Status v.id a) p)

-- what is stable is let go of, and what is missing asked for
abbrev pub TakesStatus : Who → Progress → Follower → Output → Follower → Output → Type 0
TakesStatus who a old out new more = (new ≡ collected_to a.stable old) × AsksUpTo who a.highest new out more

-- ---- its own messages

abbrev pub forward_of : Address → View → Numbered → Posted
forward_of p v f = packet p (bodies.Forward v.id f.number f.payload) v.id.creator

-- ---- a NAK: the ORDER of each held number from one on, that many numbers, rising

abbrev pub orders_held : Address → View → Address → List (ℕ × Entry) → ℕ → ℕ → List Posted
orders_held p v q held k zero = []
orders_held p v q held k (suc n) = option_map_or (λ e. packet p (bodies.Order v.id k e) q ∷ []) (held_at k held) [] ++ orders_held p v q held (k + 1) n

-- ---- a tick

abbrev pub progress_of : WindowModel → Progress
progress_of w = record { highest = w.delivered; stable = w.stable }

-- ---- it sends

abbrev pub follower_pushing : List ℕ → Follower → Follower
follower_pushing x m = record m { forwards = pushed x m.forwards }

abbrev pub SendsForward : Who → List ℕ → Follower → Output → Output → Type 0
SendsForward who x old out more =
    Grows who.group out more (forward_of who.address old.view (record { number = old.forwards.sent + 1; payload = x }) ∷ []) (Sent (sending who.address old.view.id (old.forwards.sent + 1) x) ∷ [])
