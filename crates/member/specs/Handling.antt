-- What one step of a member promises: in the acts and words of agreement, and in the words of traces.
use Rattle.std.specs.Prelude.{◌≡◌, ℕ, ◌+◌, ◌<◌, ◌≤◌, Bool, true, false, map, length, [], ◌∷◌, List, Result, Ok, Err, Option, None, Some, MatchBool, IfOk, ◌⊎◌, drop}
use Rattle.std.specs.Option.{IsSomeAnd}
use Rattle.std.specs.List.{list_all, Contains, AllByRecursion}
use Rattle.address.specs.Ids.{same_address}
use Rattle.address.specs.declared.limits.TheConstants.{GREATEST_NUMBER, WINDOW, STEP_EVENTS}
use Rattle.address.specs.declared.refusal.Refusal.TheVariants.{Memory, Closed}
use Rattle.wire.specs.Packets.{IsPacket}
use Rattle.state_transfer.specs.Meanings.{Meaning}
use Rattle.trace_props.specs.declared.event.Event.{Event}
use Rattle.trace_props.specs.declared.event.Event.TheVariants.{Sent, Delivered, Installed, Left}
use Rattle.trace_props.specs.Recorded.{IsRecordable}
use Rattle.wire_values.specs.Posted.{Posted}
use Rattle.law_acts.specs.Cores.{Core}
use Rattle.law_acts.specs.Chains.{Acted}
use Rattle.step_output.specs.declared.output.Output.{Output}
use Rattle.step_output.specs.Outputs.{Puts, packet_in, spelled}
pub use Rattle.step_output.specs.Calm.{is_quiet}
use Rattle.member.specs.Running.{IsAlive}
use Rattle.member.specs.declared.error.Error.{Error}
use Rattle.member.specs.declared.error.Error.TheVariants.{Refused}
use Rattle.member.specs.declared.input.Input.{Input}
use Rattle.member.specs.declared.input.Input.TheVariants.{Create, Join, Send, Datagram, Tick, Suspect, MergeHint, Leave}
use Rattle.member.specs.Errors.{is_memory}
use Rattle.member.specs.Members.{MemberModel, core_of, came_at, refusal_of, is_unreadable, lone_install}
use Rattle.member.specs.Doing.{Does, is_ignored}
use Rattle.step_output.specs.Steps.{who}

-- ---- acted

-- it went on by nothing but acts: what they put out is what the bytes spell, as packets that are read back, and what happened is what they let happen
pub record HasActed {S : Type 0} (meaning : Meaning S) (old : MemberModel S) (input : Input) (out : Output) (new : MemberModel S) : Type 0 where
  pub posted : List Posted
  pub acted : Acted meaning (came_at old input) (core_of old) posted out.events.items (core_of new)
  pub spelled : out.packets.items ≡ map (spelled old.group) posted
  pub sound : AllByRecursion (λ m. IsPacket (packet_in old.group m)) posted

-- ---- refused, and memory

-- it refuses as it must, and only then, and is as before; where it cannot read a state that it would take, it has ended, with 6
abbrev pub RefusesAs : {S : Type 0} → Option Error → Bool → MemberModel S → Result Output Error → MemberModel S → Type 0
RefusesAs refusal unreadable old (Ok out) new = (refusal ≡ None) × (unreadable ≡ false)
RefusesAs refusal unreadable old (Err e) new =
    MatchBool (is_memory e) (refusal ≡ None) (MatchBool unreadable ((e ≡ Refused Closed) × (core_of new ≡ None)) ((refusal ≡ Some e) × (new ≡ old)))

-- want of memory ends it; on an input that is ignored there is none
abbrev pub EndsWithout : {S : Type 0} → MemberModel S → Input → Result Output Error → MemberModel S → Type 0
EndsWithout old input result new = result ≡ Err (Refused Memory) → (core_of new ≡ None) × (is_ignored old input ≡ false)

-- 6 after its end, and before it where it cannot read a state that it would take
pub record IsClosed {S : Type 0} (meaning : Meaning S) (old : MemberModel S) (input : Input) (result : Result Output Error) : Type 0 where
  pub ended : core_of old ≡ None → result ≡ Err (Refused Closed)
  pub only : result ≡ Err (Refused Closed) → (core_of old ≡ None) ⊎ (is_unreadable meaning old input ≡ true)

-- ---- reply

-- its message gets the next number, its Sent comes first, and no other Sent with it
pub record SendsNext {S : Type 0} (c : Core S) (payload : List ℕ) (happened : List Event) : Type 0 where
  pub first : IsSomeAnd c.view (λ v.
      happened ≡ Sent (record { member = c.me; view = v.id; message = record { number = c.view_state.sent + 1; payload = payload } }) ∷ drop 1 happened)
  pub quiet : list_all is_quiet (drop 1 happened) ≡ true

-- it runs on, and is connected or not as before
abbrev pub StaysSo : {S : Type 0} → Core S → Option (Core S) → Type 0
StaysSo c end = IsSomeAnd end (λ d. d.connected ≡ c.connected)

-- it runs on, and is connected
abbrev pub IsConnected : {S : Type 0} → Option (Core S) → Type 0
IsConnected end = IsSomeAnd end (λ d. d.connected ≡ true)

-- what happens by an input that is not refused, and whether it runs on, and is connected then
abbrev pub Replies : {S : Type 0} → Core S → Input → List Event → Option (Core S) → Type 0
Replies c Create happened end = (happened ≡ Installed (lone_install c.me) ∷ []) × IsConnected end
Replies c (Join contact) happened end = (happened ≡ []) × IsConnected end
Replies c (Send payload) happened end = SendsNext c payload.now happened × StaysSo c end
Replies c (Datagram bytes) happened end = (list_all is_quiet happened ≡ true) × StaysSo c end
Replies c Tick happened end = (list_all is_quiet happened ≡ true) × StaysSo c end
Replies c (Suspect q) happened end = (list_all is_quiet happened ≡ true) × StaysSo c end
Replies c (MergeHint q) happened end = (happened ≡ []) × StaysSo c end
Replies c Leave happened end = (happened ≡ Left c.me ∷ []) × (end ≡ None)

-- ---- prompt

-- a message that the coordinator sends is delivered to it in the same step, while fewer are past the stable ones than the window has places, and a number is left
abbrev pub IsPrompt : {S : Type 0} → Core S → Input → List Event → Type 0
IsPrompt c Create happened = Unit {0}
IsPrompt c (Join contact) happened = Unit {0}
IsPrompt c (Send payload) happened = IsSomeAnd c.view (λ v. same_address c.me v.id.creator ≡ true → c.view_state.delivered < c.view_state.stable + WINDOW → c.view_state.delivered < GREATEST_NUMBER
    → Contains happened (Delivered (record { member = c.me; view = v.id; message = record { sender = c.me; number = c.view_state.sent + 1; payload = payload.now } })))
IsPrompt c (Datagram bytes) happened = Unit {0}
IsPrompt c Tick happened = Unit {0}
IsPrompt c (Suspect q) happened = Unit {0}
IsPrompt c (MergeHint q) happened = Unit {0}
IsPrompt c Leave happened = Unit {0}

-- ---- ignored

-- nothing comes out
abbrev pub IsNothing : Result Output Error → Type 0
IsNothing (Ok out) = Puts [] [] out
IsNothing (Err e) = ⊥

abbrev pub Ignores : {S : Type 0} → MemberModel S → Input → Result Output Error → MemberModel S → Type 0
Ignores old input result new = is_ignored old input ≡ true → IsNothing result × (new ≡ old)

-- ---- all of it

-- what one call promises: the clauses of `handle`
pub record Handled {S : Type 0} (meaning : Meaning S) (old : MemberModel S) (input : Input) (result : Result Output Error) (new : MemberModel S) : Type 0 where
  pub acted : IfOk result (λ out. HasActed meaning old input out new)
  pub refused : RefusesAs (refusal_of old input) (is_unreadable meaning old input) old result new
  pub memory : EndsWithout old input result new
  pub closed : IsClosed meaning old input result
  pub reply : IfOk result (λ out. IsSomeAnd (core_of old) (λ c. Replies c input out.events.items (core_of new)))
  pub prompt : IfOk result (λ out. IsSomeAnd (core_of old) (λ c. IsPrompt c input out.events.items))
  pub does : IfOk result (λ out. Does meaning old input out new)
  pub few : IfOk result (λ out. length out.events.items ≤ STEP_EVENTS)
  pub short : IfOk result (λ out. IsRecordable out.events.items)
  pub ignored : Ignores old input result new
  -- what holds of a member between its calls
  pub alive : IsAlive (who new.address new.group) new.member_state
  pub address : new.address ≡ old.address
  pub group : new.group ≡ old.group
