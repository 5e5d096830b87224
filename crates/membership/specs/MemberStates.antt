-- A member while it runs: what it decides by, and what always holds of it.
use Rattle.std.specs.Prelude.{◌≡◌, ℕ, Bool, true, false, not, ◌&&◌, ◌||◌, is_some, List, [], ◌∷◌, map, length, Option, None, Some, Result, Ok, Err, IfSome, IsSome, if◌then◌else◌}
use Rattle.std.specs.Option.{ForSome, option_eq, option_map, option_map_or, option_and_then}
use Rattle.std.specs.List.{list_all, filter_map, AllByRecursion}
use Rattle.address.specs.Ids.{Address, ViewId, same_address, same_view_id}
use Rattle.view.specs.Members.{View, stands_in}
use Rattle.view.specs.View.{view_refusal}
use Rattle.suspicion.specs.Suspicion.{leads}
use Rattle.next_view.specs.ViewNotes.{NotesModel, no_notes, having_heard}
use Rattle.wire_values.specs.Values as wire
use Rattle.wire_values.specs.declared.error.WireError.{WireError}
use Rattle.wire_values.specs.declared.packet.Packet.{Packet}
use Rattle.wire_values.specs.declared.packet.Body.TheVariants as bodies
use Rattle.wire.specs.Packets.{IsPacket, packet_of}
use Rattle.trace_props.specs.declared.event.Event.{Event}
use Rattle.trace_props.specs.declared.event.Event.TheVariants.{Blocked}
use Rattle.flush.specs.Flushes.{FlushModel, reported, has_reported, is_awaited}
use Rattle.law_acts.specs.Cores as cores
use Rattle.law_acts.specs.Cores.{Core, fresh_view_core, report_with, is_open}
use Rattle.law_acts.specs.Acts.{proposed}
use Rattle.law_acts.specs.Decisions.{proposal_after}
use Rattle.membership.specs.declared.sent_install.SentInstall.{SentInstall}
use Rattle.membership.specs.HeldChunks.{is_new}
use Rattle.wire_values.specs.Chunks.{IsTotal}
use Rattle.wire_values.specs.Lists.{IsChunk}
use Rattle.wire_values.specs.declared.values.state.GivenState.{GivenState}
use Rattle.wire_values.specs.declared.values.state.GivenState.TheVariants as forms
use Rattle.step_output.specs.Outputs.{packet_in, spelled}
use Rattle.traffic.specs.declared.view_state.ViewState.{ViewState}
use Rattle.traffic.specs.ViewStates.{view_of, view_core_of}
use Rattle.membership.specs.declared.member_state.MemberState.{MemberState}
use Rattle.wire_values.specs.Kinds.{install_said}
use Rattle.wire_values.specs.Posted.{Posted, packet}
use Rattle.step_output.specs.Steps.{Who}

-- ---- its core, in the words of agreement

abbrev pub view_in : Option ViewState → Option View
view_in view_state = option_map view_of view_state

abbrev pub view_core_in : Option ViewState → cores.ViewCore
view_core_in view_state = option_map_or view_core_of view_state fresh_view_core

abbrev pub is_connected : {S : Type 0} → MemberState S → Bool
is_connected l = is_some l.view_state || is_some l.contact

abbrev pub said_by : Result Packet WireError → Option (Address × wire.Install)
said_by (Ok p) = option_map (λ i. (p.destination, i)) (install_said p.body)
said_by (Err e) = None

-- the INSTALLs that kept bytes spell, each with whom it is for
abbrev pub sent_installs_in : List SentInstall → List (Address × wire.Install)
sent_installs_in sent = filter_map (λ s. said_by (packet_of s.packet.bytes)) sent

-- the chunks that it holds, each for the proposal that it promised
abbrev pub labelled : ViewId → List wire.Chunk → List (ViewId × wire.Chunk)
labelled w chunks = map (λ c. (w, c)) chunks

abbrev pub chunks_in : {S : Type 0} → MemberState S → List (ViewId × wire.Chunk)
chunks_in l = option_map_or (λ w. labelled w.id l.chunks) l.promise.proposal []

-- what it decides by
abbrev pub core_of : {S : Type 0} → Address → MemberState S → Core S
core_of me l = record {
  me = me;
  connected = is_connected l;
  promise = l.promise.proposal;
  installed = l.promise.is_installed;
  view = view_in l.view_state;
  view_state = view_core_in l.view_state;
  flush = l.flush;
  sent_installs = sent_installs_in l.sent_installs.items;
  kept_state = l.sent_state;
  chunks = chunks_in l;
  state = l.receiver;
}

-- ---- what it says

-- its report
abbrev pub report_in : {S : Type 0} → MemberState S → wire.Report
report_in l = report_with (view_in l.view_state) (view_core_in l.view_state)

-- where it is open it is blocked from now on
abbrev pub blocked_by : {S : Type 0} → Address → MemberState S → List Event
blocked_by me l = if is_open (view_in l.view_state) l.promise.is_installed then Blocked me ∷ [] else []

-- a flush that begins, with this report of the member's own
abbrev pub begun_with : Address → View → wire.Report → FlushModel
begun_with me w r = record { proposal = w.id; members = w.members; reports = (me, r) ∷ [] }

-- whether an INSTALL that is kept is for this address
abbrev pub is_sent_to : Address → SentInstall → Bool
is_sent_to q s = same_address s.packet.destination q

-- ---- the state that is given

-- whether it goes in chunks
abbrev pub is_chunked : GivenState → Bool
is_chunked forms.Nothing = false
is_chunked (forms.Whole bytes) = false
is_chunked (forms.Chunked total) = true

-- whether this is what it promised and did not install
abbrev pub awaits : {S : Type 0} → ViewId → MemberState S → Bool
awaits w l = option_eq same_view_id (cores.id_of l.promise.proposal) (Some w) && not l.promise.is_installed

-- whether it would hold a chunk of the state of a proposal from this address: the creator's, for the proposal that it awaits, and new to it
abbrev pub would_hold : {S : Type 0} → Address → ViewId → wire.Chunk → MemberState S → Bool
would_hold q w chunk l = same_address q w.creator && awaits w l && is_new chunk l.chunks

-- the chunks that are held on where a proposal is promised: those of that proposal
abbrev pub held_for : {S : Type 0} → View → MemberState S → List wire.Chunk
held_for w l = if option_eq same_view_id (cores.id_of l.promise.proposal) (Some w.id) then l.chunks else []

-- ---- its own flush

-- all of its list have reported
abbrev pub is_complete : FlushModel → Bool
is_complete f = list_all (λ m. has_reported m f.reports) f.members

-- a report of this address is awaited for this proposal
abbrev pub is_expected : Address → ViewId → FlushModel → Bool
is_expected q w f = same_view_id f.proposal w && is_awaited q f

-- the flush with one report more, where it is awaited
abbrev pub recording : Address → ViewId → wire.Report → FlushModel → FlushModel
recording q w r f = if same_view_id f.proposal w then reported q r f else f

-- what it proposes anew while its own flush goes on
abbrev pub anew_proposal : {S : Type 0} → Address → MemberState S → Option View
anew_proposal me l = option_and_then (λ v. if is_some l.flush then proposal_after (core_of me l) l.notes v else None) (view_in l.view_state)

-- the same past a counter
abbrev pub anew_past : {S : Type 0} → Address → MemberState S → ℕ → Option View
anew_past me l counter = anew_proposal me (record l { notes = having_heard counter l.notes })

-- ---- at its start

-- it asks nobody, is in no view, has promised nothing, and notes nobody
pub record idle_member {S : Type 0} (me : Address) (s : S) (l : MemberState S) : Type 0 where
  pub contact : l.contact ≡ None
  pub view_state : l.view_state ≡ None
  pub promise : l.promise ≡ record { member = me; proposal = None; is_installed = false }
  pub flush : l.flush ≡ None
  pub sent_installs : l.sent_installs.items ≡ []
  pub sent_state : l.sent_state ≡ None
  pub chunks : l.chunks ≡ []
  pub receiver : l.receiver ≡ s
  pub notes : l.notes ≡ no_notes

-- ---- what always holds

-- it leads a view, by what it notes
abbrev pub leads_in : Address → View → NotesModel → Bool
leads_in me v b = leads b.suspects v.members me

-- its own flush is of what it promised and did not install, in a view that it leads, and has its own report
pub record IsFlushing {S : Type 0} (me : Address) (l : MemberState S) (f : FlushModel) : Type 0 where
  pub inside : IsSome l.view_state
  pub promise : l.promise.proposal ≡ Some (proposed f)
  pub own : f.proposal.creator ≡ me
  pub waiting : l.promise.is_installed ≡ false
  pub list : view_refusal f.proposal f.members ≡ None
  pub reported : has_reported me f.reports ≡ true
  pub leads : ForSome (view_in l.view_state) (λ v. leads_in me v l.notes ≡ true)

-- a packet of its own that gives an INSTALL
abbrev pub install_packet : Address → Address × wire.Install → Posted
install_packet me p = packet me (bodies.Install p.1) p.0

-- the same with whether its state goes in chunks
abbrev pub sent_install : Who → Address × wire.Install → SentInstall
sent_install who p = record { packet = spelled who.group (install_packet who.address p); in_chunks = is_chunked p.1.state }

-- what it kept are INSTALLs of its view, to others, as it spelled them, and a state of which there are chunks
pub record IsKept {S : Type 0} (who : Who) (l : MemberState S) : Type 0 where
  pub given : List (Address × wire.Install)
  pub spelled : l.sent_installs.items ≡ map (sent_install who) given
  pub sound : AllByRecursion (λ m. IsPacket (packet_in who.group m)) (map (install_packet who.address) given)
  pub current : AllByRecursion (λ p. view_in l.view_state ≡ Some p.1.view) given
  pub state : IfSome l.sent_state (λ bytes. IsTotal (length bytes))

-- what always holds of a member that runs, as its acts need it
pub record IsMemberState {S : Type 0} (who : Who) (l : MemberState S) : Type 0 where
  -- its promise is its own
  pub own : l.promise.member ≡ who.address
  -- it never suspects itself
  pub unsuspected : stands_in who.address l.notes.suspects ≡ false
  -- it stands in its view
  pub inside : ForSome (view_in l.view_state) (λ v. stands_in who.address v.members ≡ true)
  -- before it is connected it has promised nothing, and has no flush
  pub unconnected : is_connected l ≡ false → l.promise.proposal ≡ None
  -- it stands in what it promised
  pub listed : ForSome l.promise.proposal (λ w. stands_in who.address w.members ≡ true)
  -- what it promised and did not install, without a flush of its own, another proposed
  pub waiting : l.promise.is_installed ≡ false → l.flush ≡ None → ForSome l.promise.proposal (λ w. same_address w.id.creator who.address ≡ false)
  -- where what it promised is installed, it is in that view
  pub installed : l.promise.is_installed ≡ true → view_in l.view_state ≡ l.promise.proposal
  pub flushing : ForSome l.flush (IsFlushing who.address l)
  pub sent_installs : IsKept who l
  -- each chunk that it holds is as a packet has it
  pub held : AllByRecursion IsChunk l.chunks
