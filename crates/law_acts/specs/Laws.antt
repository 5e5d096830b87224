-- The rules of a change of view as acts.
use Rattle.std.specs.Prelude.{◌≡◌, ℕ, ◌++◌, slice_get, true, false, Option, None, Some, List, [], ◌∷◌, map, unwrap_or, IsSome}
use Rattle.std.specs.List.{Contains, flat_map}
use Rattle.address.specs.Ids.{Address, ViewId}
use Rattle.view.specs.Members.{View, stands_in}
use Rattle.view.specs.View.{view_refusal}
use Rattle.state_transfer.specs.Meanings.{Meaning}
use Rattle.suspicion.specs.Suspicion.{leads}
use Rattle.next_view.specs.ViewNotes.{NotesModel}
use Rattle.wire_values.specs.Values.{Report}
use Rattle.wire_values.specs.Values as wire
use Rattle.wire_values.specs.declared.packet.Body.TheVariants as bodies
use Rattle.wire_values.specs.Posted.{Posted, packet}
use Rattle.flush.specs.Flushes.{FlushModel, IsFlush, is_awaited, reported, progress_of, together_of}
use Rattle.flush.specs.declared.progress.Progress.TheVariants.{Complete}
use Rattle.view_install.specs.Promises.{offered, is_accept}
use Rattle.law_acts.specs.Cores.{Core, report_with}
use Rattle.law_acts.specs.Acts.{others_of, promised, begun, proposed, gone_into, blocking, entering, undelivered, IsPromised, instructing_one, state_after_cut, instructions, delivered_at, state_into}
use Rattle.law_acts.specs.Given.{IsGiven}
use Rattle.law_acts.specs.Chains.{Acted}
use Rattle.law_acts.specs.Decisions.{promise_of, next_proposal, proposal_after, due_proposal, cuts_of, form_of, kept_of, given_by, is_readable, is_entry}

-- a FLUSH whose offer is accepted is promised, and reported for
abbrev pub PromisesActed : {S : Type 0} → Meaning S → Type 0
PromisesActed {S} meaning = (came : Option Posted) (c : Core S) (w : View) → came ≡ Some (packet w.id.creator (bodies.Flush w) c.me) → c.connected ≡ true
    → is_accept (offered w (promise_of c)) ≡ true
    → Acted meaning came (Some c) (packet c.me (bodies.Report w.id (report_with c.view c.view_state)) w.id.creator ∷ []) (blocking c) (Some (promised w None c))

-- it begins a flush: the proposal is promised with the own report, and announced to the others of its list
abbrev pub BeginsAt : {S : Type 0} → Meaning S → Option Posted → Core S → View → Type 0
BeginsAt meaning came c w =
    Acted meaning came (Some c) (map (packet c.me (bodies.Flush w)) (others_of c.me w.members)) (blocking c) (Some (promised w (Some (begun w c)) c))

-- in a view, the next proposal begins where its list is a view's
abbrev pub BeginsActed : {S : Type 0} → Meaning S → Type 0
BeginsActed {S} meaning = (came : Option Posted) (c : Core S) (b : NotesModel) (list : List Address) (w : View) → IsSome c.view → next_proposal c b list ≡ Some w
    → view_refusal w.id w.members ≡ None → BeginsAt meaning came c w

-- whoever leads its view, and does not suspect itself, begins with its candidates
abbrev pub ProposesActed : {S : Type 0} → Meaning S → Type 0
ProposesActed {S} meaning = (came : Option Posted) (c : Core S) (b : NotesModel) (v w : View) → c.view ≡ Some v → leads b.suspects v.members c.me ≡ true
    → stands_in c.me b.suspects ≡ false → proposal_after c b v ≡ Some w → (view_refusal w.id w.members ≡ None) × BeginsAt meaning came c w

-- a proposal that is due begins
abbrev pub DueActed : {S : Type 0} → Meaning S → Type 0
DueActed {S} meaning = (came : Option Posted) (c : Core S) (b : NotesModel) (w : View) → due_proposal c b ≡ Some w → stands_in c.me b.suspects ≡ false
    → (view_refusal w.id w.members ≡ None) × BeginsAt meaning came c w

-- an awaited report is recorded
abbrev pub RecordsActed : {S : Type 0} → Meaning S → Type 0
RecordsActed {S} meaning = (came : Option Posted) (c : Core S) (f : FlushModel) (q : Address) (r : Report) → came ≡ Some (packet q (bodies.Report f.proposal r) c.me)
    → c.flush ≡ Some f → is_awaited q f ≡ true
    → Acted meaning came (Some c) [] [] (Some (record c { flush = Some (reported q r f) }))

-- a flush to which all of its list have reported is finished, at its cuts
abbrev pub FinishesActed : {S : Type 0} → Meaning S → Type 0
FinishesActed {S} meaning = (came : Option Posted) (c : Core S) (v : View) (f : FlushModel) → c.view ≡ Some v → c.flush ≡ Some f → IsFlush f → progress_of f ≡ Complete
    → let given = given_by meaning c v f in
    let to_others = instructions c v f (cuts_of f) (form_of given) in
    let last = undelivered c.view_state.delivered ((cuts_of f).base v.id) ((cuts_of f).items v.id) in
    Acted meaning came (Some c) (flat_map (instructing_one c.me f.proposal (unwrap_or given [])) to_others) (entering c last (proposed f) (together_of c.me f) None)
    (Some (gone_into (proposed f) (state_after_cut meaning c v (cuts_of f)) to_others (kept_of given) c))

-- a STATE for the promised proposal, from its creator, is held
abbrev pub GathersActed : {S : Type 0} → Meaning S → Type 0
GathersActed {S} meaning = (came : Option Posted) (c : Core S) (w : ViewId) (chunk : wire.Chunk) (chunks : List (ViewId × wire.Chunk)) → came ≡ Some (packet w.creator (bodies.State w chunk) c.me)
    → IsPromised w c.promise c.installed → ((k : ℕ) (x : ViewId × wire.Chunk) → slice_get chunks k ≡ Some x → Contains (c.chunks ++ (w, chunk) ∷ []) x)
    → Acted meaning came (Some c) [] [] (Some (record c { chunks = chunks }))

-- an INSTALL by which it would enter, whose state is held and can be read, is entered
abbrev pub EntersActed : {S : Type 0} → Meaning S → Type 0
EntersActed {S} meaning = (came : Option Posted) (c : Core S) (q : Address) (i : wire.Install) (given : Option (List ℕ)) → came ≡ Some (packet q (bodies.Install i) c.me)
    → is_entry c q i ≡ true → IsGiven c.chunks i.view.id i.state given → is_readable meaning given ≡ true
    → let last = delivered_at c i.base i.items in
    Acted meaning came (Some c) [] (entering c last i.view i.together given) (Some (gone_into i.view (state_into meaning c last given) [] None c))
