-- What a member does in a change of view: exactly what it puts out, what happens to it, and what is left of it.
use Rattle.std.specs.Prelude.{◌≡◌, ℕ, Bool, true, false, ◌&&◌, ◌++◌, List, [], ◌∷◌, map, length, find, Option, None, Some, IfSome, MatchBool, MatchOption, if◌then◌else◌}
use Rattle.std.specs.List.{AllByRecursion}
use Rattle.std.specs.Option.{option_map, option_map_or, option_to_list}
use Rattle.address.specs.Ids.{Address, ViewId}
use Rattle.view.specs.Members.{View}
use Rattle.state_transfer.specs.Meanings.{Meaning}
use Rattle.next_view.specs.ViewNotes.{no_notes, settled, suspecting, having_heard}
use Rattle.wire_values.specs.Values as wire
use Rattle.wire_values.specs.declared.packet.Body.TheVariants as bodies
use Rattle.flush.specs.Flushes.{FlushModel, IsFlush}
use Rattle.view_install.specs.declared.promise.OfferAnswer.{OfferAnswer}
use Rattle.view_install.specs.declared.promise.OfferAnswer.TheVariants.{Accept, Behind, Ignore}
use Rattle.view_install.specs.Promises.{offered, promising, after_install}
use Rattle.law_acts.specs.Acts.{others_of, proposed}
use Rattle.law_acts.specs.Decisions.{due_proposal, is_entry, is_readable, kept_of}
use Rattle.step_output.specs.declared.output.Output.{Output}
use Rattle.step_output.specs.Outputs.{Grows, packet_in, spelled}
use Rattle.traffic.specs.declared.view_state.ViewState.{ViewState}
use Rattle.traffic.specs.ViewStates.{fresh_in}
use Rattle.membership.specs.MemberStates.{core_of, view_in, report_in, blocked_by, begun_with, is_sent_to, is_complete, recording, anew_proposal, held_for, would_hold}
use Rattle.membership.specs.Installs.{finished_state, finished_given, finish_packets, finish_sent, finish_events, state_by, arriving, enter_events}
use Rattle.membership.specs.declared.member_state.MemberState.{MemberState}
use Rattle.membership.specs.declared.sent_install.SentInstall.{SentInstall}
use Rattle.membership.specs.HeldChunks.{is_there, given_in}
use Rattle.wire.specs.Packets.{IsPacket}
use Rattle.wire_values.specs.Chunks.{IsTotal}
use Rattle.wire_values.specs.Posted.{Posted, packet}
use Rattle.law_acts.specs.Given.{chunks_of}
use Rattle.step_output.specs.Steps.{Who}
use Rattle.membership.specs.InSteps.{InStep, in_step}

-- nothing is done
abbrev pub StaysAs : {S : Type 0} → InStep S → InStep S → Type 0
StaysAs old new = (new.member ≡ old.member) × (new.out ≡ old.out)

-- ---- a FLUSH

-- it promises the proposal, is blocked, and reports to who proposed it
pub record Promises {S : Type 0} (who : Who) (w : View) (old new : InStep S) : Type 0 where
  pub member_state : new.member ≡ record (old.member) { promise = promising w old.member.promise; flush = None; chunks = held_for w old.member }
  pub grows : Grows who.group old.out new.out (packet who.address (bodies.Report w.id (report_in old.member)) w.id.creator ∷ []) (blocked_by who.address old.member)

-- by the answer to its offer: it promises, or says how far it is, or ignores it
abbrev pub TakesBy : {S : Type 0} → Who → OfferAnswer → View → InStep S → InStep S → Type 0
TakesBy who Accept w old new = Promises who w old new
TakesBy who (Behind counter) w old new = (new.member ≡ old.member) × Grows who.group old.out new.out (packet who.address (bodies.Behind w.id counter) w.id.creator ∷ []) []
TakesBy who Ignore w old new = StaysAs old new

abbrev pub is_behind : OfferAnswer → Bool
is_behind Accept = false
is_behind (Behind counter) = true
is_behind Ignore = false

abbrev pub is_ignored_offer : OfferAnswer → Bool
is_ignored_offer Accept = false
is_ignored_offer (Behind counter) = false
is_ignored_offer Ignore = true

abbrev pub TakesFlush : {S : Type 0} → Who → View → InStep S → InStep S → Type 0
TakesFlush who w old new = TakesBy who (offered w old.member.promise) w old new

-- ---- a flush of its own

-- it proposes: it is blocked, its own report is in the flush, and the proposal goes to the others of the list
pub record Begins {S : Type 0} (who : Who) (w : View) (old new : InStep S) : Type 0 where
  pub member_state : new.member ≡ record (old.member) { promise = promising w old.member.promise; flush = Some (begun_with who.address w (report_in old.member)); chunks = held_for w old.member }
  pub grows : Grows who.group old.out new.out (map (packet who.address (bodies.Flush w)) (others_of who.address w.members)) (blocked_by who.address old.member)

-- it proposes what is due, and nothing where nothing is
abbrev pub ProposesIf : {S : Type 0} → Who → InStep S → InStep S → Type 0
ProposesIf who old new = MatchOption (due_proposal (core_of who.address old.member) old.member.notes) (StaysAs old new) (λ w. Begins who w old new)

-- it goes into its own proposal: it is delivered what it lacks of its view's cut, and says to each other of the list how to go into the view, with its
-- state for those who come from another view; what it said is kept
pub record Finishes {S : Type 0} (meaning : Meaning S) (who : Who) (f : FlushModel) (t : ViewState) (old new : InStep S) : Type 0 where
  pub flush : IsFlush f
  pub member_state : new.member ≡ record (old.member) {
    view_state = Some (fresh_in who.address (proposed f));
    promise = after_install (proposed f) old.member.promise;
    flush = None;
    sent_installs = new.member.sent_installs;
    sent_state = kept_of (finished_given meaning f t old.member.receiver);
    chunks = [];
    receiver = finished_state meaning f t old.member.receiver;
    notes = settled f.members old.member.notes;
  }
  pub sent_installs : new.member.sent_installs.items ≡ finish_sent who f t (finished_given meaning f t old.member.receiver)
  pub sent_state : IfSome new.member.sent_state (λ bytes. IsTotal (length bytes))
  pub grows : Grows who.group old.out new.out (finish_packets who.address f t (finished_given meaning f t old.member.receiver)) (finish_events who.address f t)

-- it goes into its own proposal, and proposes what is due then
pub record FinishesAndProposes {S : Type 0} (meaning : Meaning S) (who : Who) (f : FlushModel) (t : ViewState) (old new : InStep S) : Type 0 where
  pub mid : InStep S
  pub finishes : Finishes meaning who f t old mid
  pub proposes : ProposesIf who mid new

-- where all have reported it goes into its own proposal, and proposes what is due then; else it waits on
abbrev pub GoesOn : {S : Type 0} → Meaning S → Who → InStep S → InStep S → Type 0
GoesOn meaning who old new =
    MatchOption old.member.flush (StaysAs old new)
    (λ f. MatchBool (is_complete f) (MatchOption old.member.view_state ⊥ (λ t. FinishesAndProposes meaning who f t old new)) (StaysAs old new))

-- it proposes, and alone in the list it goes on at once
pub record BeginsAndGoesOn {S : Type 0} (meaning : Meaning S) (who : Who) (w : View) (old new : InStep S) : Type 0 where
  pub mid : InStep S
  pub begins : Begins who w old mid
  pub goes_on : GoesOn meaning who mid new

-- it begins what is due, and nothing where nothing is
abbrev pub Regroups : {S : Type 0} → Meaning S → Who → InStep S → InStep S → Type 0
Regroups meaning who old new =
    MatchOption (due_proposal (core_of who.address old.member) old.member.notes) (StaysAs old new) (λ w. BeginsAndGoesOn meaning who w old new)

-- ---- a REPORT

-- its flush has the report, and it goes on
abbrev pub TakesReport : {S : Type 0} → Meaning S → Who → Address → ViewId → wire.Report → InStep S → InStep S → Type 0
TakesReport meaning who q w r old new = GoesOn meaning who (in_step (record (old.member) { flush = option_map (recording q w r) old.member.flush }) old.out) new

-- the chunks of the state that it gave, for a member of its view
abbrev pub state_packets : {S : Type 0} → Address → Address → MemberState S → List Posted
state_packets me q l =
    option_map_or (λ v. option_map_or (λ state. map (λ chunk. packet me (bodies.State v.id chunk) q) (chunks_of state)) l.sent_state []) (view_in l.view_state) []

-- those that stand before an INSTALL that it kept
abbrev pub chunks_before : {S : Type 0} → Address → Address → MemberState S → Option SentInstall → List Posted
chunks_before me q l sent = option_map_or (λ s. if s.in_chunks then state_packets me q l else []) sent []

-- it puts out again the INSTALL that it kept for a member of its view, if it kept one, behind the chunks of the state that it gives
pub record InstallsAgain {S : Type 0} (who : Who) (q : Address) (old : InStep S) (later : Output) : Type 0 where
  pub packets : later.packets.items
      ≡ (old.out.packets.items ++ map (spelled who.group) (chunks_before who.address q old.member (find (is_sent_to q) old.member.sent_installs.items)))
      ++ map (λ s. s.packet) (option_to_list (find (is_sent_to q) old.member.sent_installs.items))
  pub sound : AllByRecursion (λ m. IsPacket (packet_in who.group m)) (chunks_before who.address q old.member (find (is_sent_to q) old.member.sent_installs.items))
  pub events : later.events.items ≡ old.out.events.items

-- ---- a STATE

-- it holds a chunk that it would hold
abbrev pub TakesChunk : {S : Type 0} → Address → ViewId → wire.Chunk → InStep S → InStep S → Type 0
TakesChunk q w chunk old new =
    MatchBool (would_hold q w chunk old.member) ((new.member ≡ record (old.member) { chunks = old.member.chunks ++ chunk ∷ [] }) × (new.out ≡ old.out)) (StaysAs old new)

-- ---- a BEHIND

-- it begins with its candidates anew, where the counters are not used up
abbrev pub BeginsAnew : {S : Type 0} → Meaning S → Who → InStep S → InStep S → Type 0
BeginsAnew meaning who old new = MatchOption (anew_proposal who.address old.member) (StaysAs old new) (λ w. BeginsAndGoesOn meaning who w old new)

-- it has heard of the counter, and begins anew
abbrev pub TakesBehind : {S : Type 0} → Meaning S → Who → ℕ → InStep S → InStep S → Type 0
TakesBehind meaning who counter old new = BeginsAnew meaning who (in_step (record (old.member) { notes = having_heard counter old.member.notes }) old.out) new

-- ---- a suspicion

-- the address is suspected, and what is due then is begun
abbrev pub TakesSuspicion : {S : Type 0} → Meaning S → Who → Address → InStep S → InStep S → Type 0
TakesSuspicion meaning who p old new = Regroups meaning who (in_step (record (old.member) { notes = suspecting p old.member.notes }) old.out) new

-- ---- an INSTALL

-- it installs the view, and begins there anew
pub record Arrives {S : Type 0} (who : Who) (view_state : Option ViewState) (i : wire.Install) (given : Option (List ℕ)) (own : ℕ) (old new : InStep S) : Type 0 where
  pub member_state : new.member ≡ record (old.member) {
    view_state = Some (fresh_in who.address i.view);
    promise = after_install i.view old.member.promise;
    flush = None;
    sent_installs = new.member.sent_installs;
    sent_state = None;
    chunks = [];
    notes = no_notes;
  }
  pub sent_installs : new.member.sent_installs.items ≡ []
  pub grows : Grows who.group old.out new.out [] (arriving who.address view_state i given own ∷ [])

-- it delivers what it lacks of its view, takes the state that is given, installs the view, and begins there anew
pub record Enters {S : Type 0} (meaning : Meaning S) (who : Who) (view_state : Option ViewState) (i : wire.Install) (given : Option (List ℕ)) (old new : InStep S) : Type 0 where
  pub member_state : new.member ≡ record (old.member) {
    view_state = Some (fresh_in who.address i.view);
    promise = after_install i.view old.member.promise;
    flush = None;
    sent_installs = new.member.sent_installs;
    sent_state = None;
    chunks = [];
    receiver = state_by meaning view_state i given old.member.receiver;
    notes = no_notes;
  }
  pub sent_installs : new.member.sent_installs.items ≡ []
  pub grows : Grows who.group old.out new.out [] (enter_events who.address view_state i given)

-- whether it would enter by an INSTALL: it is an entry, and the state that it gives is there
abbrev pub would_enter : {S : Type 0} → Address → MemberState S → Address → wire.Install → Bool
would_enter me l q i = is_entry (core_of me l) q i && is_there i.state l.chunks

-- it enters exactly where it would, by a state that can be read
abbrev pub TakesInstall : {S : Type 0} → Meaning S → Who → Address → wire.Install → InStep S → InStep S → Type 0
TakesInstall meaning who q i old new =
    MatchBool (would_enter who.address old.member q i)
    (let given = given_in i.state old.member.chunks in (is_readable meaning given ≡ true) × Enters meaning who old.member.view_state i given old new)
    (StaysAs old new)
