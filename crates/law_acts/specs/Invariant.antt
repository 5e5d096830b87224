-- The invariant: what holds of every history that comes of steps, in four families. Of the trace, of each packet, of each install, of each member. Beside it
-- stands what holds of the chunks of states.
use Rattle.std.specs.Prelude.{◌≡◌, ◌≤◌, ℕ, true, Option, None, Some, List, [], length, slice_get, is_some}
use Rattle.std.specs.Option.{ForSome, IsSomeAnd}
use Rattle.address.specs.Ids.{Address, ViewId, IsAddress}
use Rattle.address.specs.declared.limits.TheConstants.{PAYLOAD}
use Rattle.view.specs.Members.{View}
use Rattle.wire_values.specs.Values as wire
use Rattle.wire_values.specs.declared.packet.Body.TheVariants as bodies
use Rattle.wire_values.specs.declared.values.state.GivenState.TheVariants as forms
use Rattle.wire_values.specs.Posted.{Posted}
use Rattle.state_transfer.specs.Meanings.{Meaning}
use Rattle.trace_props.specs.declared.event.Event.{Event}
use Rattle.trace_props.specs.declared.event.Numbered.{Numbered}
use Rattle.trace_props.specs.declared.event.Install.{Install}
use Rattle.trace_props.specs.Observed.{has_started, delivered_in, sent_in, entry_of}
use Rattle.trace_props.specs.State.{entry_state}
use Rattle.trace_props.specs.Synchrony.{IsVirtuallySynchronous}
use Rattle.law_acts.specs.Words.{tally_of, no_tally}
use Rattle.law_acts.specs.Histories.{History, install_of}
use Rattle.law_acts.specs.Cores.{Core, install_sent_to}
use Rattle.law_acts.specs.Steps.{System}
use Rattle.law_acts.specs.Packets.{PacketFact, IsEntry, GivesState, BeginsWith, IsPiece, WasPutOut}
use Rattle.law_acts.specs.Members.{MemberFact}

-- a member that has not installed a view delivered nothing and sent nothing there
pub record IsUntouched (t : List Event) (p : Address) (v : ViewId) : Type 0 where
  pub none_delivered : delivered_in p v t ≡ []
  pub sent : sent_in p v t ≡ []
  pub tally : tally_of p v t ≡ no_tally

abbrev pub NothingBefore : List Event → Type 0
NothingBefore t = (p : Address) (v : ViewId) → entry_of p v t ≡ None → IsUntouched t p v

-- payloads are short
abbrev pub SendsShort : List Event → Type 0
SendsShort t = (p : Address) (v : ViewId) (k : ℕ) (m : Numbered) → slice_get (sent_in p v t) k ≡ Some m → length m.payload ≤ PAYLOAD

-- who started has an address that a program can hold
abbrev pub StartsProper : List Event → Type 0
StartsProper t = (p : Address) → has_started p t ≡ true → IsAddress p

-- each packet comes from one who started
abbrev pub HasRealSenders : History → Type 0
HasRealSenders h = (k : ℕ) (m : Posted) → slice_get h.pool k ≡ Some m → has_started m.source h.trace ≡ true

-- of the trace: the eight rules at every place; nothing before a view is installed; payloads and addresses in range; who put out a packet has started
pub record TraceFact {S : Type 0} (meaning : Meaning S) (h : History) : Type 0 where
  pub synchronous : IsVirtuallySynchronous meaning h.trace
  pub before : NothingBefore h.trace
  pub short : SendsShort h.trace
  pub proper : StartsProper h.trace
  pub senders : HasRealSenders h

-- of each packet and each install
abbrev pub EachPacket : History → Type 0
EachPacket h = (k : ℕ) (m : Posted) → slice_get h.pool k ≡ Some m → PacketFact h m

abbrev pub EachEntry : History → Type 0
EachEntry h = (q : Address) (w : ViewId) (e : Install) → entry_of q w h.trace ≡ Some e → IsEntry h q w e

-- the states that are given, and those with which views begin
pub record StateFact {S : Type 0} (meaning : Meaning S) (h : History) : Type 0 where
  pub there : (w : ViewId) (e : Install) → entry_of w.creator w h.trace ≡ Some e → is_some (entry_state meaning w h.trace) ≡ true
  pub given : (w : ViewId) (q : Address) (i : wire.Install) → install_of w q h.pool ≡ Some i → GivesState meaning h q i
  pub begins : (w : ViewId) (e : Install) → entry_of w.creator w h.trace ≡ Some e → BeginsWith meaning h.trace w e
  pub are : (w : ViewId) (s : S) → entry_state meaning w h.trace ≡ Some s → meaning.is_state s

-- the chunks that were put out are pieces of the state with which their view begins
abbrev pub EachPiece : {S : Type 0} → Meaning S → History → Type 0
EachPiece meaning h = (k : ℕ) (m : Posted) (w : ViewId) (chunk : wire.Chunk) → slice_get h.pool k ≡ Some m → m.body ≡ bodies.State w chunk → IsPiece meaning h.trace w chunk

-- chunks that are held were put out, for the same proposals
abbrev pub HoldsPutOut : List Posted → List (ViewId × wire.Chunk) → Type 0
HoldsPutOut pool chunks = (k : ℕ) (w : ViewId) (chunk : wire.Chunk) → slice_get chunks k ≡ Some (w, chunk) → WasPutOut pool w chunk

-- a state that is kept is the one with which the current view begins
abbrev pub KeepsState : {S : Type 0} → Meaning S → List Event → Option View → Option (List ℕ) → Type 0
KeepsState meaning t view kept = ForSome kept (λ bytes. ForSome view (λ v. IsSomeAnd (entry_state meaning v.id t) (λ s. meaning.encode s ≡ bytes)))

-- where an instruction that is kept gives its state in chunks, the state is kept
abbrev pub KeepsGiven : List (Address × wire.Install) → Option (List ℕ) → Type 0
KeepsGiven sent kept = (q : Address) (i : wire.Install) (total : ℕ) → install_sent_to q sent ≡ Some i → i.state ≡ forms.Chunked total → is_some kept ≡ true

-- of the chunks that were put out, those that each member holds, and the state that it keeps
pub record ChunkFact {S : Type 0} (meaning : Meaning S) (s : System S) : Type 0 where
  pub pieces : EachPiece meaning s.history
  pub held : (p : Address) (c : Core S) → s.running p ≡ Some c → HoldsPutOut s.history.pool c.chunks
  pub kept : (p : Address) (c : Core S) → s.running p ≡ Some c → KeepsState meaning s.history.trace c.view c.kept_state
  pub gives : (p : Address) (c : Core S) → s.running p ≡ Some c → KeepsGiven c.sent_installs c.kept_state

-- of the trace, of each packet, of each install, of states, of each member that runs
pub record Invariant {S : Type 0} (meaning : Meaning S) (s : System S) : Type 0 where
  pub trace : TraceFact meaning s.history
  pub packets : EachPacket s.history
  pub entries : EachEntry s.history
  pub states : StateFact meaning s.history
  pub members : (p : Address) (c : Core S) → s.running p ≡ Some c → MemberFact meaning s.history p c

-- what every step keeps: the invariant, and what holds of chunks
pub record Kept {S : Type 0} (meaning : Meaning S) (s : System S) : Type 0 where
  pub agreed : Invariant meaning s
  pub chunks : ChunkFact meaning s
