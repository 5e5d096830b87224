-- What each event does at its node, to the trace and to the pool: local, exact, and without a word on the history. Whatever a member does is
-- one call of its `handle`, with the whole of its contract.
use Rattle.std.specs.Prelude.{◌≡◌, ℕ, ◌+◌, ◌^◌, false, ◌∷◌, [], ◌++◌, List, map, nat_lt, nat_eq, Result, Ok, Err, ◌⊎◌, MatchBool, Option, None, Some, if◌then◌else◌}
use Rattle.std.specs.Borrow.{Bor}
use Rattle.std.specs.Option.{IsSomeAnd}
use Rattle.address.specs.Ids.{Address, IsAddress}
use Rattle.state_transfer.specs.Meanings.{Meaning}
use Rattle.trace_props.specs.declared.event.Event.{Event}
use Rattle.trace_props.specs.declared.event.Event.TheVariants.{Started, Crashed}
use Rattle.law_acts.specs.Cores.{idle}
use Rattle.membership.specs.MemberStates.{idle_member}
use Rattle.member.specs.Running.{IsAlive}
use Rattle.member.specs.declared.error.Error.{Error}
use Rattle.member.specs.declared.input.Input.{Input}
use Rattle.member.specs.declared.input.Input.TheVariants as input
use Rattle.step_output.specs.declared.output.Output.{Output}
use Rattle.member.specs.Errors.{is_memory}
use Rattle.member.specs.Members.{MemberModel, core_of, leaves}
use Rattle.member.specs.Handling.{Handled}
use Rattle.world_model.specs.declared.Answer.{Answer}
use Rattle.world_model.specs.declared.Answer.TheVariants.{Done, Sent, Refused}
use Rattle.address.specs.declared.refusal.Refusal.{Refusal}
use Rattle.address.specs.declared.refusal.Refusal.TheVariants.{NotConnected, AlreadyConnected, Closed, Memory, Exhausted}
use Rattle.world_model.specs.declared.WorldEvent.{WorldEvent}
use Rattle.world_model.specs.declared.WorldEvent.TheVariants.{Start, Create, Join, Send, Deliver, Tick, Suspect, MergeHint, Leave, Crash}
use Rattle.world_model.specs.declared.Target.{Target}
use Rattle.world_model.specs.declared.Target.TheVariants as target
use Rattle.world_model.specs.Histories.{starts}
use Rattle.world_model.specs.Packets.{world_group, destination_of, packet_numbered}
use Rattle.world.specs.declared.node_state.NodeState.{NodeState}
use Rattle.world.specs.declared.node_state.NodeState.TheVariants.{Vacant, Ended, Running}
use Rattle.world.specs.NodeStates.{answer_for, is_closed, answer_to, node_state_at, bytes_of}
use Rattle.step_output.specs.Steps.{who}

-- ---- what an event is about

-- what stands at a node, or at all of them; what happened; the packets that were put out. A relation names the event and its answer first, then what
-- stood before, then what stands after
pub record About (X : Type 0) : Type 0 where
  pub at : X
  pub trace : List Event
  pub pool : List (List ℕ)

abbrev pub about : {X : Type 0} → X → List Event → List (List ℕ) → About X
about x t pool = record { at = x; trace = t; pool = pool }

-- ---- a node is handed an input

-- nothing changes
pub record Stays {S : Type 0} (r : Refusal) (a : Answer) (old : NodeState S) (t : List Event) (new : NodeState S) (t' : List Event) : Type 0 where
  pub answer : a ≡ Refused r
  pub node_state : new ≡ old
  pub trace : t' ≡ t

-- TAKEN: what happened joins the trace, what was put out joins the pool; the member runs on, or has left
pub record Takes {S : Type 0} (p : Address) (input : Input) (out : Output) (left : MemberModel S) (a : Answer) (old new : About (NodeState S)) : Type 0 where
  pub answer : a ≡ answer_to out.events.items
  pub node_state : new.at ≡ (if leaves input then Ended p else Running left)
  pub trace : new.trace ≡ old.trace ++ out.events.items
  pub puts : new.pool ≡ old.pool ++ map bytes_of out.packets.items

-- LOST: memory was refused, and the member has crashed
pub record Crashes {S : Type 0} (p : Address) (a : Answer) (old new : About (NodeState S)) : Type 0 where
  pub answer : a ≡ Refused Memory
  pub node_state : new.at ≡ Ended p
  pub trace : new.trace ≡ old.trace ++ Crashed p ∷ []
  pub puts : new.pool ≡ old.pool

-- REFUSED: nothing happened; the member runs on as the call left it, or has ended, if it is closed
pub record Refuses {S : Type 0} (p : Address) (e : Error) (left : MemberModel S) (a : Answer) (old new : About (NodeState S)) : Type 0 where
  pub answer : a ≡ answer_for e
  pub node_state : new.at ≡ (if is_closed e then Ended p else Running left)
  pub trace : new.trace ≡ old.trace
  pub puts : new.pool ≡ old.pool

-- what comes of a call at the node, by what it answered; what it would put out is lost where the pool is refused growth for it
abbrev pub CallGives : {S : Type 0} → Address → Input → Result Output Error → MemberModel S → Answer → About (NodeState S) → About (NodeState S) → Type 0
CallGives p input (Ok out) left a old new = Takes p input out left a old new ⊎ ((out.packets.items ≡ [] → ⊥) × Crashes p a old new)
CallGives p input (Err e) left a old new = MatchBool (is_memory e) (Crashes p a old new) (Refuses p e left a old new)

-- one call of `handle` on the member that runs there, with its whole contract, and what comes of it
pub record HandsHere {S : Type 0} (meaning : Meaning S) (input : Input) (m : MemberModel S) (a : Answer) (old new : About (NodeState S)) : Type 0 where
  pub result : Result Output Error
  pub left : MemberModel S
  pub handled : Handled meaning m input result left
  pub gives : CallGives m.address input result left a old new

-- refused, and no packet is put out
abbrev pub StaysSo : {S : Type 0} → Refusal → Answer → About (NodeState S) → About (NodeState S) → Type 0
StaysSo r a old new = Stays r a old.at old.trace new.at new.trace × (new.pool ≡ old.pool)

abbrev pub HandsAt : {S : Type 0} → Meaning S → Input → NodeState S → Answer → About (NodeState S) → About (NodeState S) → Type 0
HandsAt meaning input Vacant a old new = StaysSo NotConnected a old new
HandsAt meaning input (Ended p) a old new = StaysSo Closed a old new
HandsAt meaning input (Running m) a old new = HandsHere meaning input m a old new

abbrev pub Hands : {S : Type 0} → Meaning S → Input → Answer → About (NodeState S) → About (NodeState S) → Type 0
Hands meaning input a old new = HandsAt meaning input old.at a old new

-- ---- starts and crashes

-- the member of an address runs: idle, with nothing noted, and nothing happened to it yet
pub record Begun {S : Type 0} (meaning : Meaning S) (p : Address) (t : List Event) (new : NodeState S) (t' : List Event) : Type 0 where
  pub member : MemberModel S
  pub node_state : new ≡ Running member
  pub address : member.address ≡ p
  pub group : member.group ≡ world_group
  pub member_state : IsSomeAnd member.member_state (idle_member p meaning.opening)
  pub core : core_of member ≡ Some (idle meaning.opening p)
  pub alive : IsAlive (who member.address member.group) member.member_state
  pub trace : t' ≡ t ++ Started p ∷ []

-- the member of an address begins, or begins and crashes
abbrev pub BeginsSo : {S : Type 0} → Meaning S → Address → Answer → List Event → NodeState S → List Event → Type 0
BeginsSo meaning p Done t new t' = Begun meaning p t new t'
BeginsSo meaning p (Sent n) t new t' = ⊥
BeginsSo meaning p (Refused Memory) t new t' = (new ≡ Ended p) × (t' ≡ t ++ Started p ∷ [] ++ Crashed p ∷ [])
BeginsSo meaning p (Refused r) t new t' = ⊥

abbrev pub Begins : {S : Type 0} → Meaning S → Address → Answer → List Event → NodeState S → List Event → Type 0
Begins meaning p a t new t' = IsAddress p × BeginsSo meaning p a t new t'

abbrev pub StartGives : {S : Type 0} → Meaning S → ℕ → Answer → NodeState S → List Event → NodeState S → List Event → Type 0
StartGives meaning n a Vacant t new t' = Begins meaning (record { node = n; incarnation = 1 }) a t new t'
StartGives meaning n a (Ended p) t new t' =
    MatchBool (nat_lt (p.incarnation + 1) (2 ^ 32))
    (Begins meaning (record { node = p.node; incarnation = p.incarnation + 1 }) a t new t')
    (Stays Exhausted a (Ended p) t new t')
StartGives meaning n a (Running m) t new t' = Stays AlreadyConnected a (Running m) t new t'

-- the member ends in this event
abbrev pub Ends : {S : Type 0} → Address → Event → Answer → List Event → NodeState S → List Event → Type 0
Ends p h a t new t' = (a ≡ Done) × (new ≡ Ended p) × (t' ≡ t ++ h ∷ [])

abbrev pub CrashGives : {S : Type 0} → Answer → NodeState S → List Event → NodeState S → List Event → Type 0
CrashGives a Vacant t new t' = Stays NotConnected a Vacant t new t'
CrashGives a (Ended p) t new t' = Stays Closed a (Ended p) t new t'
CrashGives a (Running m) t new t' = Ends m.address (Crashed m.address) a t new t'

-- ---- events

-- what is handed to the member at the node, with a payload that is lent
abbrev pub HandsLentAt : {S : Type 0} → Meaning S → (Bor (List ℕ) → Input) → List ℕ → NodeState S → Answer → About (NodeState S) → About (NodeState S) → Type 0
HandsLentAt meaning input bytes Vacant a old new = StaysSo NotConnected a old new
HandsLentAt meaning input bytes (Ended p) a old new = StaysSo Closed a old new
HandsLentAt meaning input bytes (Running m) a old new = (b : Bor (List ℕ)) × (b.now ≡ bytes) × HandsHere meaning (input b) m a old new

abbrev pub HandsLent : {S : Type 0} → Meaning S → (Bor (List ℕ) → Input) → List ℕ → Answer → About (NodeState S) → About (NodeState S) → Type 0
HandsLent meaning input bytes a old new = HandsLentAt meaning input bytes old.at a old new

-- an event at its node
abbrev pub Acts : {S : Type 0} → Meaning S → WorldEvent → Answer → About (NodeState S) → About (NodeState S) → Type 0
Acts meaning (Start n) a old new = StartGives meaning n a old.at old.trace new.at new.trace × (new.pool ≡ old.pool)
Acts meaning (Create n) a old new = Hands meaning input.Create a old new
Acts meaning (Join n contact) a old new = Hands meaning (input.Join contact) a old new
Acts meaning (Send n payload) a old new = HandsLent meaning input.Send payload a old new
Acts meaning (Deliver k) a old new = (a ≡ Done) × (new.at ≡ old.at) × (new.trace ≡ old.trace) × (new.pool ≡ old.pool)
Acts meaning (Tick n) a old new = Hands meaning input.Tick a old new
Acts meaning (Suspect n q) a old new = Hands meaning (input.Suspect q) a old new
Acts meaning (MergeHint n q) a old new = Hands meaning (input.MergeHint q) a old new
Acts meaning (Leave n) a old new = Hands meaning input.Leave a old new
Acts meaning (Crash n) a old new = CrashGives a old.at old.trace new.at new.trace × (new.pool ≡ old.pool)

-- nothing is done
pub record Idles {S : Type 0} (a : Answer) (old new : About (NodeState S)) : Type 0 where
  pub answer : a ≡ Done
  pub node_state : new.at ≡ old.at
  pub trace : new.trace ≡ old.trace
  pub puts : new.pool ≡ old.pool

-- the bytes of a packet at a node
abbrev pub HandsPacketAt : {S : Type 0} → Meaning S → List ℕ → NodeState S → Answer → About (NodeState S) → About (NodeState S) → Type 0
HandsPacketAt meaning bytes Vacant a old new = Idles a old new
HandsPacketAt meaning bytes (Ended p) a old new = Idles a old new
HandsPacketAt meaning bytes (Running m) a old new = HandsLentAt meaning input.Datagram bytes (Running m) a old new

abbrev pub HandsPacket : {S : Type 0} → Meaning S → List ℕ → Answer → About (NodeState S) → About (NodeState S) → Type 0
HandsPacket meaning bytes a old new = HandsPacketAt meaning bytes old.at a old new

-- ---- nodes

-- an event at its node, which may not be kept yet
abbrev pub ActsAtKept : {S : Type 0} → Meaning S → WorldEvent → Option (NodeState S) → Answer → About (Option (NodeState S)) → About (Option (NodeState S)) → Type 0
ActsAtKept meaning e None a old new = (a ≡ Refused NotConnected) × (new.at ≡ None) × (new.trace ≡ old.trace) × (new.pool ≡ old.pool)
ActsAtKept meaning e (Some s) a old new = Acts meaning e a (about s old.trace old.pool) (about (node_state_at new.at) new.trace new.pool)

abbrev pub ActsAt : {S : Type 0} → Meaning S → WorldEvent → Answer → About (Option (NodeState S)) → About (Option (NodeState S)) → Type 0
ActsAt meaning e a old new = ActsAtKept meaning e old.at a old new

-- a node that is not kept is kept, and vacant
abbrev pub KeepsNodeState : {S : Type 0} → Option (NodeState S) → Option (NodeState S) → Type 0
KeepsNodeState None new = new ≡ Some Vacant
KeepsNodeState (Some s) new = new ≡ Some s

-- a start finds its node kept, and vacant if it is new
abbrev pub CarriesOut : {S : Type 0} → Meaning S → WorldEvent → Answer → About (Option (NodeState S)) → About (Option (NodeState S)) → Type 0
CarriesOut meaning e a old new =
    MatchBool (starts e) (Acts meaning e a (about (node_state_at old.at) old.trace old.pool) (about (node_state_at new.at) new.trace new.pool)) (ActsAt meaning e a old new)

-- ---- all nodes

abbrev pub SameNodeStates : {S : Type 0} → (ℕ → NodeState S) → (ℕ → NodeState S) → Type 0
SameNodeStates at new = (m : ℕ) → new m ≡ at m

-- all nodes but one stand as they stood
abbrev pub OthersStand : {S : Type 0} → ℕ → (ℕ → NodeState S) → (ℕ → NodeState S) → Type 0
OthersStand n at new = (m : ℕ) → nat_eq n m ≡ false → new m ≡ at m

-- no node, no event and no packet changes
pub record Rests {S : Type 0} (a : Answer) (old new : About (ℕ → NodeState S)) : Type 0 where
  pub answer : a ≡ Done
  pub node_states : SameNodeStates old.at new.at
  pub trace : new.trace ≡ old.trace
  pub puts : new.pool ≡ old.pool

-- what it is about at one of the nodes
abbrev pub about_node : {S : Type 0} → ℕ → About (ℕ → NodeState S) → About (NodeState S)
about_node n w = about (w.at n) w.trace w.pool

-- some bytes are handed to the member that runs at the node of whom they are for
abbrev pub HandsOver : {S : Type 0} → Meaning S → List ℕ → Option Address → Answer → About (ℕ → NodeState S) → About (ℕ → NodeState S) → Type 0
HandsOver meaning bytes None a old new = Rests a old new
HandsOver meaning bytes (Some p) a old new = HandsPacket meaning bytes a (about_node p.node old) (about_node p.node new) × OthersStand p.node old.at new.at

-- a packet is delivered, if there is one of that number
abbrev pub Delivers : {S : Type 0} → Meaning S → Option (List ℕ) → Answer → About (ℕ → NodeState S) → About (ℕ → NodeState S) → Type 0
Delivers meaning None a old new = Rests a old new
Delivers meaning (Some bytes) a old new = HandsOver meaning bytes (destination_of bytes) a old new

-- one event: at its node, or with the packet of its number
abbrev pub Carries : {S : Type 0} → Meaning S → Target → WorldEvent → Answer → About (ℕ → NodeState S) → About (ℕ → NodeState S) → Type 0
Carries meaning (target.Member n) e a old new = Acts meaning e a (about_node n old) (about_node n new) × OthersStand n old.at new.at
Carries meaning (target.Packet k) e a old new = Delivers meaning (packet_numbered k old.pool) a old new
