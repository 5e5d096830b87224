-- A deployment: what the processes of one group did, step by step, in some order that agrees with what each of them did.
use Rattle.std.specs.Prelude.{◌≡◌, ⊤, ℕ, Bool, true, false, List, [], ◌∷◌, ◌++◌, map, slice_get, Option, None, Some, Result, Ok, Err, is_some, ◌⊎◌, if◌then◌else◌}
use Rattle.address.specs.Ids.{Address, IsAddress, same_address}
use Rattle.wire_values.specs.declared.error.WireError.{WireError}
use Rattle.wire_values.specs.declared.packet.Packet.{Packet}
use Rattle.wire.specs.Packets.{packet_of}
use Rattle.state_transfer.specs.Meanings.{Meaning}
use Rattle.trace_props.specs.declared.event.Event.{Event}
use Rattle.trace_props.specs.declared.event.Event.TheVariants.{Started, Crashed}
use Rattle.trace_props.specs.Observed.{has_started}
use Rattle.law_acts.specs.Cores.{idle}
use Rattle.step_output.specs.Names.{same_name}
use Rattle.step_output.specs.declared.output.Outgoing.{Outgoing}
use Rattle.step_output.specs.declared.output.Output.{Output}
use Rattle.member.specs.declared.error.Error.{Error}
use Rattle.member.specs.declared.input.Input.{Input}
use Rattle.member.specs.declared.input.Input.TheVariants.{Create, Join, Send, Datagram, Tick, Suspect, MergeHint, Leave}
use Rattle.member.specs.Members.{MemberModel, core_of}
use Rattle.member.specs.Handling.{Handled}
use Rattle.member.specs.Running.{IsAlive}
use Rattle.step_output.specs.Steps.{who}

-- ---- steps

-- one step: the process of an address starts, and this is its member; its member is called with an input, answers this, and is left so; or it is killed
pub data Step (S : Type 0) : Type 0 where
  Start : Address → MemberModel S → Step S
  Call : Address → Input → Result Output Error → MemberModel S → Step S
  Crash : Address → Step S

-- the members that run, by address; each datagram that was put out; and what happened
pub record Deployment (S : Type 0) : Type 0 where
  pub members : Address → Option (MemberModel S)
  pub offered : List (List ℕ)
  pub trace : List Event

abbrev pub nothing_yet : {S : Type 0} → Deployment S
nothing_yet = record { members = λ p. None; offered = []; trace = [] }

-- the members that run, with one changed
abbrev pub with_member : {S : Type 0} → Address → Option (MemberModel S) → (Address → Option (MemberModel S)) → Address → Option (MemberModel S)
with_member p m members q = if same_address q p then m else members q

-- a member that has ended is let go
abbrev pub running_on : {S : Type 0} → MemberModel S → Option (MemberModel S)
running_on m = if is_some m.member_state then Some m else None

-- whose step it is
abbrev pub whose : {S : Type 0} → Step S → Address
whose (Start p m) = p
whose (Call p input result left) = p
whose (Crash p) = p

-- the member that runs after it at its address
abbrev pub left_with : {S : Type 0} → Step S → Option (MemberModel S)
left_with (Start p m) = Some m
left_with (Call p input result left) = running_on left
left_with (Crash p) = None

abbrev pub bytes_of : Outgoing → List ℕ
bytes_of packet = packet.bytes

-- the datagrams that it puts out: those of a call that is taken
abbrev pub puts_of : {S : Type 0} → Step S → List (List ℕ)
puts_of (Start p m) = []
puts_of (Call p input (Ok out) left) = map bytes_of out.packets.items
puts_of (Call p input (Err e) left) = []
puts_of (Crash p) = []

-- what its member tells: what happened by a call that is taken
abbrev pub told_by : {S : Type 0} → Step S → List Event
told_by (Start p m) = []
told_by (Call p input (Ok out) left) = out.events.items
told_by (Call p input (Err e) left) = []
told_by (Crash p) = []

-- what happens by it: that, and what no member tells, that one starts, and that it ends by an error or is killed
abbrev pub happens_by : {S : Type 0} → Step S → List Event
happens_by (Start p m) = Started p ∷ []
happens_by (Call p input (Ok out) left) = out.events.items
happens_by (Call p input (Err e) left) = if is_some left.member_state then [] else Crashed p ∷ []
happens_by (Crash p) = Crashed p ∷ []

-- the deployment after a step
abbrev pub after : {S : Type 0} → Deployment S → Step S → Deployment S
after d x = record { members = with_member (whose x) (left_with x) d.members; offered = d.offered ++ puts_of x; trace = d.trace ++ happens_by x }

abbrev pub after_steps : {S : Type 0} → Deployment S → List (Step S) → Deployment S
after_steps d [] = d
after_steps d (x ∷ steps) = after_steps (after d x) steps

-- what holds of each step, and of the deployment before it
abbrev pub EachStep : {S : Type 0} → (Deployment S → Step S → Type 0) → Deployment S → List (Step S) → Type 0
EachStep Holds d [] = ⊤
EachStep Holds d (x ∷ steps) = Holds d x × EachStep Holds (after d x) steps

-- ---- what a process does

-- a member that has just started, as `Member::new` makes it
pub record IsNew {S : Type 0} (meaning : Meaning S) (group : List ℕ) (p : Address) (m : MemberModel S) : Type 0 where
  pub real : IsAddress p
  pub address : m.address ≡ p
  pub group_is : m.group ≡ group
  pub core : core_of m ≡ Some (idle meaning.opening p)
  pub alive : IsAlive (who m.address m.group) m.member_state

-- one call of `handle`, with its whole contract, on the member that runs at the address
pub record IsCall {S : Type 0} (meaning : Meaning S) (running : Option (MemberModel S)) (input : Input) (result : Result Output Error) (left : MemberModel S) : Type 0 where
  pub member : MemberModel S
  pub runs : running ≡ Some member
  pub handled : Handled meaning member input result left

-- each process does what its member's contract says
abbrev pub DoesSo : {S : Type 0} → Meaning S → List ℕ → Deployment S → Step S → Type 0
DoesSo meaning group d (Start p m) = IsNew meaning group p m
DoesSo meaning group d (Call p input result left) = IsCall meaning (d.members p) input result left
DoesSo meaning group d (Crash p) = is_some (d.members p) ≡ true

-- ---- the two premises

-- no address is started twice
abbrev pub StartsOnce : {S : Type 0} → Deployment S → Step S → Type 0
StartsOnce d (Start p m) = has_started p d.trace ≡ false
StartsOnce d (Call p input result left) = ⊤
StartsOnce d (Crash p) = ⊤

-- whether some bytes spell a packet of the group
abbrev pub is_of : List ℕ → Result Packet WireError → Bool
is_of group (Ok packet) = same_name packet.group group
is_of group (Err e) = false

-- bytes were put out before
abbrev pub WasPutOut : List (List ℕ) → List ℕ → Type 0
WasPutOut offered bytes = (k : ℕ) × (slice_get offered k ≡ Some bytes)

-- they were put out before, byte for byte, or they spell no packet of the group
abbrev pub MayCome : List ℕ → List (List ℕ) → List ℕ → Type 0
MayCome group offered bytes = WasPutOut offered bytes ⊎ (is_of group (packet_of bytes) ≡ false)

abbrev pub MayBeHanded : List ℕ → List (List ℕ) → Input → Type 0
MayBeHanded group offered Create = ⊤
MayBeHanded group offered (Join contact) = ⊤
MayBeHanded group offered (Send payload) = ⊤
MayBeHanded group offered (Datagram bytes) = MayCome group offered bytes.now
MayBeHanded group offered Tick = ⊤
MayBeHanded group offered (Suspect q) = ⊤
MayBeHanded group offered (MergeHint q) = ⊤
MayBeHanded group offered Leave = ⊤

-- a datagram that is handed to a member may come
abbrev pub HandsOver : {S : Type 0} → List ℕ → Deployment S → Step S → Type 0
HandsOver group d (Start p m) = ⊤
HandsOver group d (Call p input result left) = MayBeHanded group d.offered input
HandsOver group d (Crash p) = ⊤

-- ---- histories

-- DEPLOYMENT HISTORY: steps of processes, from nothing, under the two premises
pub record IsHistory {S : Type 0} (meaning : Meaning S) (group : List ℕ) (steps : List (Step S)) : Type 0 where
  pub does : EachStep (DoesSo meaning group) nothing_yet steps
  pub once : EachStep StartsOnce nothing_yet steps
  pub network : EachStep (HandsOver group) nothing_yet steps

-- PLAYED: a deployment that came from nothing by such steps
pub record IsPlayed {S : Type 0} (meaning : Meaning S) (group : List ℕ) (d : Deployment S) : Type 0 where
  pub steps : List (Step S)
  pub history : IsHistory meaning group steps
  pub end : after_steps nothing_yet steps ≡ d

-- what happened
abbrev pub trace_of : {S : Type 0} → List (Step S) → List Event
trace_of steps = (after_steps nothing_yet steps).trace
