-- What a member does with the messages of its view.
use Rattle.std.specs.Prelude.{◌≡◌, ℕ, ◌+◌, ◌-◌, ◌≤◌, true, Bool, List, [], ◌∷◌, ◌++◌, map, length, Option, None, Some, nat_lt, ◌&&◌, MatchBool}
use Rattle.std.specs.List.{list_all}
use Rattle.address.specs.Ids.{Address, ViewId}
use Rattle.address.specs.declared.limits.TheConstants.{WINDOW, GREATEST_NUMBER}
use Rattle.wire_values.specs.Values.{Entry, Missing, Progress}
use Rattle.wire_values.specs.declared.packet.Body.TheVariants as bodies
use Rattle.wire_values.specs.Posted.{packet}
use Rattle.state_transfer.specs.Meanings.{Meaning}
use Rattle.trace_props.specs.declared.event.Event.{Event}
use Rattle.trace_props.specs.declared.event.Event.TheVariants.{Sent}
use Rattle.law_acts.specs.Acts.{others_of, delivery}
use Rattle.step_output.specs.declared.output.Output.{Output}
use Rattle.step_output.specs.Outputs.{Grows}
use Rattle.step_output.specs.Calm.{is_quiet}
use Rattle.traffic.specs.declared.coordinator.Coordinator.{Coordinator}
use Rattle.traffic.specs.declared.follower.Follower.{Follower}
use Rattle.traffic.specs.declared.view_state.ViewState.{ViewState}
use Rattle.traffic.specs.declared.view_state.ViewState.TheVariants as kinds
use Rattle.traffic.specs.Coordinators.{acknowledged, queued}
use Rattle.traffic.specs.Goings.{sending}
use Rattle.traffic.specs.Turns.{OrdersAll, SendsOrdering}
use Rattle.traffic.specs.Takes.{TakesOrder, TakesStatus, forward_of, ack_of, orders_held, progress_of, follower_pushing, SendsForward}
use Rattle.membership.specs.declared.member_state.MemberState.{MemberState}
use Rattle.member_rules.specs.Heard.{takes_forward, takes_nak, takes_ack, takes_order, takes_status, is_coordinator_that}
use Rattle.membership.specs.Changes.{StaysAs}
use Rattle.step_output.specs.Steps.{Who}
use Rattle.traffic.specs.InViews.{in_view}
use Rattle.membership.specs.InSteps.{InStep}

-- a fact by what a member is in its view: its coordinator, another member of it, or in none
abbrev pub ByKind : (Coordinator → Type 0) → (Follower → Type 0) → Type 0 → Option ViewState → Type 0
ByKind OfCoordinator OfFollower OfNone None = OfNone
ByKind OfCoordinator OfFollower OfNone (Some (kinds.Coordinator m)) = OfCoordinator m
ByKind OfCoordinator OfFollower OfNone (Some (kinds.Follower m)) = OfFollower m

-- all is as before but what is kept of the view and the state of the receiver
abbrev pub IsSameBeside : {S : Type 0} → MemberState S → MemberState S → Type 0
IsSameBeside old new = new ≡ record old { view_state = new.view_state; receiver = new.receiver }

-- it is the coordinator of its view, and it did this
abbrev pub AtCoordinator : {S : Type 0} → (Coordinator → Coordinator → Type 0) → MemberState S → MemberState S → Type 0
AtCoordinator Does old new = IsSameBeside old new × ByKind (λ m. ByKind (Does m) (λ n. ⊥) ⊥ new.view_state) (λ m. ⊥) ⊥ old.view_state

-- it is another member of its view, and it did this
abbrev pub AtFollower : {S : Type 0} → (Follower → Follower → Type 0) → MemberState S → MemberState S → Type 0
AtFollower Does old new = IsSameBeside old new × ByKind (λ m. ⊥) (λ m. ByKind (λ n. ⊥) (Does m) ⊥ new.view_state) ⊥ old.view_state

-- ---- packets of messages: ignored, or taken

-- a FORWARD: its message waits, and all is ordered that may be
abbrev pub OnForward : {S : Type 0} → Meaning S → Who → Address → ViewId → ℕ → List ℕ → InStep S → InStep S → Type 0
OnForward meaning who source id number payload old new =
    MatchBool (takes_forward source id old.member)
    (AtCoordinator (λ m n. OrdersAll meaning who (in_view (queued source number payload m) old.member.receiver old.out) (in_view n new.member.receiver new.out)) old.member new.member)
    (StaysAs old new)

-- an ACK: it is noted, and all is ordered that may be
abbrev pub OnAck : {S : Type 0} → Meaning S → Who → Address → ViewId → ℕ → InStep S → InStep S → Type 0
OnAck meaning who source id count old new =
    MatchBool (takes_ack source id count old.member)
    (AtCoordinator (λ m n. OrdersAll meaning who (in_view (acknowledged source count m) old.member.receiver old.out) (in_view n new.member.receiver new.out)) old.member new.member)
    (StaysAs old new)

-- a NAK: the ORDERs that it asks for go to its source
abbrev pub OnNak : {S : Type 0} → Who → Address → ViewId → Missing → InStep S → InStep S → Type 0
OnNak who source id missing old new =
    MatchBool (takes_nak source id old.member)
    ((new.member ≡ old.member) × ByKind
    (λ m. Grows who.group old.out new.out (orders_held who.address m.view source m.window.held missing.first (missing.last + 1 - missing.first)) []) (λ m. ⊥) ⊥ old.member.view_state)
    (StaysAs old new)

-- an ORDER: held, delivered in turn, and answered
abbrev pub OnOrder : {S : Type 0} → Meaning S → Who → Address → ViewId → ℕ → Entry → InStep S → InStep S → Type 0
OnOrder meaning who source id place entry old new =
    MatchBool (takes_order source id place old.member)
    (AtFollower (λ m n. TakesOrder meaning who place entry (in_view m old.member.receiver old.out) (in_view n new.member.receiver new.out)) old.member new.member)
    (StaysAs old new)

-- a STATUS: what is stable is let go of, and what is missing asked for
abbrev pub OnStatus : {S : Type 0} → Who → Address → ViewId → Progress → InStep S → InStep S → Type 0
OnStatus who source id progress old new =
    MatchBool (takes_status source id progress old.member)
    (AtFollower (λ m n. TakesStatus who progress m old.out n new.out × (new.member.receiver ≡ old.member.receiver)) old.member new.member)
    (StaysAs old new)

-- ---- a message of its own

-- the coordinator orders it where it may; another member puts out its FORWARD
abbrev pub Sends : {S : Type 0} → Meaning S → Who → List ℕ → InStep S → InStep S → Type 0
Sends meaning who payload old new =
    IsSameBeside old.member new.member × ByKind
    (λ m. ByKind (λ n. SendsOrdering meaning who payload (in_view m old.member.receiver old.out) (in_view n new.member.receiver new.out)) (λ n. ⊥) ⊥ new.member.view_state)
    (λ m. ByKind (λ n. ⊥) (λ n. (n ≡ follower_pushing payload m) × (new.member.receiver ≡ old.member.receiver) × SendsForward who payload m old.out new.out) ⊥ new.member.view_state)
    ⊥ old.member.view_state

-- the first event is that it is sent, under the next number; what else happens no input asks for
pub record SendsNext (me : Address) (v : ViewId) (sent : ℕ) (payload : List ℕ) (out later : Output) : Type 0 where
  pub more : List Event
  pub grows : later.events.items ≡ out.events.items ++ Sent (sending me v (sent + 1) payload) ∷ more
  pub few : length more ≤ WINDOW
  pub quiet : list_all is_quiet more ≡ true

abbrev pub SendsFirst : {S : Type 0} → Address → List ℕ → InStep S → Output → Type 0
SendsFirst me payload old later =
    ByKind (λ m. SendsNext me m.view.id m.forwards.sent payload old.out later) (λ m. SendsNext me m.view.id m.forwards.sent payload old.out later) ⊥ old.member.view_state

-- whether one more message may be ordered at the coordinator of the view
abbrev pub has_room : Option ViewState → Bool
has_room view_state = is_coordinator_that (λ m. nat_lt m.window.delivered (m.window.stable + WINDOW) && nat_lt m.window.delivered GREATEST_NUMBER) view_state

-- right after it is sent it is delivered to the member itself
pub record DeliversNext (me : Address) (v : ViewId) (sent : ℕ) (payload : List ℕ) (out later : Output) : Type 0 where
  pub more : List Event
  pub grows : later.events.items
      ≡ out.events.items ++ Sent (sending me v (sent + 1) payload) ∷ delivery me v (record { sender = me; number = sent + 1; payload = payload }) ∷ more
  pub few : length more ≤ WINDOW - 1
  pub quiet : list_all is_quiet more ≡ true

abbrev pub DeliversAtOnce : {S : Type 0} → Address → List ℕ → InStep S → Output → Type 0
DeliversAtOnce me payload old later = ByKind (λ m. DeliversNext me m.view.id m.forwards.sent payload old.out later) (λ m. ⊥) ⊥ old.member.view_state

-- ---- a tick

-- the coordinator announces to the others how far its order has come; another member puts out its outstanding messages again, and how far it has come
abbrev pub TicksInView : {S : Type 0} → Who → InStep S → Output → Type 0
TicksInView who old later = ByKind
    (λ m. Grows who.group old.out later (map (packet who.address (bodies.Status m.view.id (progress_of m.window))) (others_of who.address m.view.members)) [])
    (λ m. Grows who.group old.out later (map (forward_of who.address m.view) m.forwards.rest ++ ack_of who.address m ∷ []) [])
    (later ≡ old.out) old.member.view_state
