-- The acts: the small things that members do, one after another. When each is allowed, what it leaves, what it puts out and what happens by it.
use Rattle.std.specs.Prelude.{◌≡◌, ℕ, ◌+◌, ◌-◌, ◌<◌, ◌≤◌, ◌⊎◌, ◌&&◌, Bool, true, false, not, Option, None, Some, List, [], ◌∷◌, ◌++◌, map, filter, length, max, drop, slice_get, IsSome, MatchOption, MatchBool, unwrap_or, nat_eq, if◌then◌else◌}
use Rattle.std.specs.Option.{ForSome, option_and_then, option_eq, option_map_or}
use Rattle.std.specs.List.{Contains, flat_map, list_all}
use Rattle.address.specs.Ids.{Address, ViewId, same_address, same_view_id}
use Rattle.view.specs.Members.{View, stands_in}
use Rattle.view.specs.View.{view_refusal}
use Rattle.address.specs.declared.limits.TheConstants.{PAYLOAD, WINDOW}
use Rattle.wire_values.specs.Values.{Entry, held_at, Report, nothing_reported}
use Rattle.wire_values.specs.Values as wire
use Rattle.wire_values.specs.declared.values.state.GivenState.{GivenState}
use Rattle.wire_values.specs.declared.values.state.GivenState.TheVariants as forms
use Rattle.wire_values.specs.declared.packet.Body.{Body}
use Rattle.wire_values.specs.declared.packet.Body.TheVariants as bodies
use Rattle.wire_values.specs.Posted.{Posted, packet}
use Rattle.state_transfer.specs.Meanings.{Meaning}
use Rattle.flush.specs.Cuts.{IsCut}
use Rattle.flush.specs.Flushes.{FlushModel, report_from, group, together_of}
use Rattle.trace_props.specs.declared.event.Event.{Event}
use Rattle.trace_props.specs.declared.event.Event.TheVariants.{Sent, Delivered, Blocked, Installed, Left}
use Rattle.trace_props.specs.Rules.{IsBelow}
use Rattle.law_acts.specs.Words.{message_for}
use Rattle.law_acts.specs.Given.{Tells, IsGiven, chunk_at, chunks_of, kept_bytes}
use Rattle.law_acts.specs.Cores.{ViewCore, Core, fresh_view_core, install_sent_to, is_open, id_of, report_with, delivered_more, left_of, applied}

-- a cut for each view: the number before its items, and the items
pub record Cuts : Type 0 where
  pub base : ViewId → ℕ
  pub items : ViewId → List Entry

-- the seventeen acts
pub data Act : Type 0 where
  -- makes a first view of itself alone
  Creates : Act
  -- asks to be let in
  Joins : Act
  -- puts out a packet that says again what is known
  Puts : Address → Body → Act
  -- sends a message in its view
  Sends : View → List ℕ → Act
  -- takes a message among those that are to be ordered: what waits afterwards
  Queues : View → Entry → List Entry → Act
  -- orders the next message of a sender: what waits afterwards, what is held afterwards
  Orders : View → Entry → List Entry → List (ℕ × Entry) → Act
  -- takes an acknowledgement
  TakesAck : View → Address → ℕ → Act
  -- lets go of what is stable: what is held afterwards
  Collects : View → ℕ → List (ℕ × Entry) → Act
  -- holds an entry at its number: what is held afterwards
  Holds : View → ℕ → Entry → List (ℕ × Entry) → Act
  -- delivers the next entry that it holds
  Delivers : View → Entry → Act
  -- promises the proposal of another
  Promises : View → Act
  -- proposes a view
  Begins : View → Act
  -- records a report for its own proposal
  Records : FlushModel → Address → Report → Act
  -- holds a chunk of the state for the promised proposal of another: what is held afterwards
  Gathers : ViewId → wire.Chunk → List (ViewId × wire.Chunk) → Act
  -- goes into its own proposal, to which all of its list have reported, at these cuts, and gives its state so
  Finishes : View → FlushModel → Cuts → GivenState → Act
  -- goes into the promised proposal of another, with the state that is given
  Enters : wire.Install → Option (List ℕ) → Act
  -- leaves
  Leaves : Act

-- ---- lists of members

-- all of a list but one
abbrev pub others_of : Address → List Address → List Address
others_of p list = filter (λ q. not (same_address q p)) list

-- ---- what is held

-- an entry more, at a number where none was
pub record HoldsMore (old : List (ℕ × Entry)) (g : ℕ) (e : Entry) (new : List (ℕ × Entry)) : Type 0 where
  pub free : held_at g old ≡ None
  pub now : (k : ℕ) → held_at k new ≡ (if nat_eq k g then Some e else held_at k old)

-- only what lies above a number
pub record HoldsAbove (old : List (ℕ × Entry)) (t : ℕ) (new : List (ℕ × Entry)) : Type 0 where
  pub above : (k : ℕ) → t < k → held_at k new ≡ held_at k old
  pub below : (k : ℕ) → k ≤ t → held_at k new ≡ None

-- ---- being in a view

-- in this view, with no other promised
pub record IsOpenIn {S : Type 0} (c : Core S) (v : View) : Type 0 where
  pub view : c.view ≡ Some v
  pub installed : c.installed ≡ true

-- nothing is promised, or a lower view
abbrev pub IsAbovePromise : ViewId → Option View → Type 0
IsAbovePromise w promise = ForSome promise (λ p. IsBelow p.id w)

-- this very proposal is promised, and not installed
abbrev pub IsPromised : ViewId → Option View → Bool → Type 0
IsPromised w promise installed = (id_of promise ≡ Some w) × (installed ≡ false)

-- ---- packets that say again what is known

-- a member may put out this to that address
abbrev pub Describes : {S : Type 0} → Core S → Address → Body → Type 0
Describes c q bodies.Join = Unit {0}
Describes c q (bodies.Redirect coordinator) = Unit {0}
Describes c q bodies.Leave = Unit {0}
Describes c q (bodies.Forward view number payload) = (id_of c.view ≡ Some view) × Contains c.view_state.outstanding (record { number = number; payload = payload })
Describes c q (bodies.Order view place entry) = (id_of c.view ≡ Some view) × (same_address c.me view.creator ≡ true) × (held_at place c.view_state.held ≡ Some entry)
Describes c q (bodies.Nak view missing) = Unit {0}
Describes c q (bodies.Ack view delivered) = (id_of c.view ≡ Some view) × (delivered ≤ c.view_state.delivered)
Describes c q (bodies.Status view progress) =
    (id_of c.view ≡ Some view) × (same_address c.me view.creator ≡ true) × (progress.stable ≤ c.view_state.stable) × (progress.highest ≤ c.view_state.delivered)
Describes c q (bodies.Flush proposal) =
    (reports : List (Address × Report)) × (c.flush ≡ Some (record { proposal = proposal.id; members = proposal.members; reports = reports }))
    × (stands_in q proposal.members ≡ true) × (same_address q c.me ≡ false)
Describes c q (bodies.Behind proposal counter) = Unit {0}
Describes c q (bodies.Report proposal report) =
    (w : View) × (c.promise ≡ Some w) × (c.installed ≡ false) × (w.id ≡ proposal) × (same_address proposal.creator c.me ≡ false)
    × (q ≡ proposal.creator) × (report ≡ report_with c.view c.view_state)
Describes c q (bodies.Install install) = (c.view ≡ Some install.view) × (install_sent_to q c.sent_installs ≡ Some install)
Describes c q (bodies.Merge view) = Unit {0}
Describes c q (bodies.State proposal chunk) = (state : List ℕ) × (c.kept_state ≡ Some state) × (id_of c.view ≡ Some proposal) × (chunk ≡ chunk_at state chunk.index)

-- ---- when an act is allowed

-- came: the packet that the member was handed in this step
-- an address other than the member says this to it
abbrev pub Says : {S : Type 0} → Option Posted → Core S → Address → Body → Type 0
Says came c q body = came ≡ Some (packet q body c.me)

-- a member that is not connected, and has promised nothing
pub record MayCreate {S : Type 0} (c : Core S) : Type 0 where
  pub unconnected : c.connected ≡ false
  pub unpromised : c.promise ≡ None
  pub outside : c.view ≡ None

-- open in its view, a short payload
pub record MaySend {S : Type 0} (c : Core S) (v : View) (payload : List ℕ) : Type 0 where
  pub open_in : IsOpenIn c v
  pub short : length payload ≤ PAYLOAD

-- at the coordinator, of a member of the view, past what was ordered of it; it came as a FORWARD or is an own one that is outstanding
pub record MayQueue {S : Type 0} (came : Option Posted) (c : Core S) (v : View) (e : Entry) (waiting : List Entry) : Type 0 where
  pub open_in : IsOpenIn c v
  pub first : same_address c.me v.id.creator ≡ true
  pub member : stands_in e.sender v.members ≡ true
  pub new : c.view_state.ordered e.sender < e.number
  pub sent : MatchBool (same_address e.sender c.me) (Contains c.view_state.outstanding (record { number = e.number; payload = e.payload }))
      (Says came c e.sender (bodies.Forward v.id e.number e.payload))
  pub fewer : (k : ℕ) (x : Entry) → slice_get waiting k ≡ Some x → Contains (c.view_state.waiting ++ e ∷ []) x

-- at the coordinator, the next of its sender, while fewer lie past the stable ones than the window has places
pub record MayOrder {S : Type 0} (c : Core S) (v : View) (e : Entry) (waiting : List Entry) (held : List (ℕ × Entry)) : Type 0 where
  pub open_in : IsOpenIn c v
  pub first : same_address c.me v.id.creator ≡ true
  pub waits : Contains c.view_state.waiting e
  pub next : e.number ≡ c.view_state.ordered e.sender + 1
  pub room : c.view_state.delivered < c.view_state.stable + WINDOW
  pub fewer : (k : ℕ) (x : Entry) → slice_get waiting k ≡ Some x → Contains c.view_state.waiting x
  pub more : HoldsMore c.view_state.held (c.view_state.delivered + 1) e held

-- at the coordinator, of a member of the view: its own count, of what it delivered; or one that came as an ACK
pub record MayTakeAck {S : Type 0} (came : Option Posted) (c : Core S) (v : View) (q : Address) (n : ℕ) : Type 0 where
  pub open_in : IsOpenIn c v
  pub first : same_address c.me v.id.creator ≡ true
  pub member : stands_in q v.members ≡ true
  pub acked : MatchBool (same_address q c.me) (n ≤ c.view_state.delivered) (Says came c q (bodies.Ack v.id n))

-- why a count is stable: each member of the view has acknowledged it; or the coordinator says so, or orders a number that lies so far ahead
pub data IsStable {S : Type 0} (came : Option Posted) (c : Core S) (v : View) (t : ℕ) : Type 0 where
  All : same_address c.me v.id.creator ≡ true → ((q : Address) → stands_in q v.members ≡ true → t ≤ c.view_state.acks q) → IsStable came c v t
  Ordered : (g : ℕ) (e : Entry) → Says came c v.id.creator (bodies.Order v.id g e) → t + WINDOW ≤ g → IsStable came c v t
  Announced : (p : wire.Progress) → Says came c v.id.creator (bodies.Status v.id p) → t ≤ p.stable → IsStable came c v t

-- a count that is stable, and was delivered here
pub record MayCollect {S : Type 0} (came : Option Posted) (c : Core S) (v : View) (t : ℕ) (held : List (ℕ × Entry)) : Type 0 where
  pub open_in : IsOpenIn c v
  pub reached : t ≤ c.view_state.delivered
  pub stable : IsStable came c v t
  pub fewer : HoldsAbove c.view_state.held (max c.view_state.stable t) held

-- another than the coordinator, by an ORDER of the coordinator's: above what was delivered, near enough for the window
pub record MayHold {S : Type 0} (came : Option Posted) (c : Core S) (v : View) (g : ℕ) (e : Entry) (held : List (ℕ × Entry)) : Type 0 where
  pub open_in : IsOpenIn c v
  pub other : same_address c.me v.id.creator ≡ false
  pub ordered : Says came c v.id.creator (bodies.Order v.id g e)
  pub new : c.view_state.delivered < g
  pub near : g ≤ c.view_state.stable + WINDOW
  pub more : HoldsMore c.view_state.held g e held

-- another than the coordinator, the next of the order, which it holds
pub record MayDeliver {S : Type 0} (c : Core S) (v : View) (e : Entry) : Type 0 where
  pub open_in : IsOpenIn c v
  pub other : same_address c.me v.id.creator ≡ false
  pub next : held_at (c.view_state.delivered + 1) c.view_state.held ≡ Some e

-- by a FLUSH of the proposal's creator: one that is above the promise, or is the promise and not installed
pub record MayPromise {S : Type 0} (came : Option Posted) (c : Core S) (w : View) : Type 0 where
  pub asked : Says came c w.id.creator (bodies.Flush w)
  pub listed : stands_in c.me w.members ≡ true
  pub connected : c.connected ≡ true
  pub above : IsAbovePromise w.id c.promise ⊎ IsPromised w.id c.promise c.installed

-- its own proposal, above its promise, from within a view
pub record MayBegin {S : Type 0} (c : Core S) (w : View) : Type 0 where
  pub inside : IsSome c.view
  pub own : w.id.creator ≡ c.me
  pub above : IsAbovePromise w.id c.promise
  pub view : view_refusal w.id w.members ≡ None

-- by a REPORT for its own proposal, of one of the list that has not reported
pub record MayRecord {S : Type 0} (came : Option Posted) (c : Core S) (f : FlushModel) (q : Address) (r : Report) : Type 0 where
  pub flush : c.flush ≡ Some f
  pub received : Says came c q (bodies.Report f.proposal r)
  pub listed : stands_in q f.members ≡ true
  pub new : report_from q f.reports ≡ None

-- the entries with numbers past the delivered ones, of those that follow a number
abbrev pub undelivered : ℕ → ℕ → List Entry → List Entry
undelivered delivered base items = drop (delivered - base) items

-- the state after the own cut
abbrev pub state_after_cut : {S : Type 0} → Meaning S → Core S → View → Cuts → S
state_after_cut meaning c v cuts = applied meaning c.state (undelivered c.view_state.delivered (cuts.base v.id) (cuts.items v.id))

-- whether all of a list come from a view
abbrev pub all_come_from : ViewId → List (Address × Report) → Bool
all_come_from v reports = list_all (λ x. option_eq same_view_id x.1.previous (Some v)) reports

-- all of the list have reported, and the cuts are those of the views that they reported
pub record MayFinish {S : Type 0} (meaning : Meaning S) (c : Core S) (v : View) (f : FlushModel) (cuts : Cuts) (given : GivenState) : Type 0 where
  pub view : c.view ≡ Some v
  pub flush : c.flush ≡ Some f
  pub all : (q : Address) → stands_in q f.members ≡ true → IsSome (report_from q f.reports)
  pub cut : (q : Address) (r : Report) (u : ViewId) → report_from q f.reports ≡ Some r → r.previous ≡ Some u
      → IsCut (group (Some u) f.reports) (cuts.base u) (cuts.items u)
  -- where not all come from its view, the state after the own cut is given
  pub gives : MatchBool (all_come_from v.id f.reports) (Unit {0}) (Tells given (Some (meaning.encode (state_after_cut meaning c v cuts))))

-- a STATE for the promised proposal, from its creator
pub record MayGather {S : Type 0} (came : Option Posted) (c : Core S) (w : ViewId) (chunk : wire.Chunk) (chunks : List (ViewId × wire.Chunk)) : Type 0 where
  pub sent : Says came c w.creator (bodies.State w chunk)
  pub promised : IsPromised w c.promise c.installed
  pub fewer : (k : ℕ) (x : ViewId × wire.Chunk) → slice_get chunks k ≡ Some x → Contains (c.chunks ++ (w, chunk) ∷ []) x

-- who comes from no view is delivered no messages and given a state
pub record IsForNewcomer (i : wire.Install) (given : Option (List ℕ)) : Type 0 where
  pub base : i.base ≡ 0
  pub items : i.items ≡ []
  pub state : IsSome given

-- by an INSTALL of the creator of the view that it promised and did not install; it fits, the state that it gives is held, and can be read
pub record MayEnter {S : Type 0} (meaning : Meaning S) (came : Option Posted) (c : Core S) (i : wire.Install) (given : Option (List ℕ)) : Type 0 where
  pub asked : Says came c i.view.id.creator (bodies.Install i)
  pub promised : c.promise ≡ Some i.view
  pub waiting : c.installed ≡ false
  pub fits : MatchOption c.view (IsForNewcomer i given) (λ v. i.base ≤ c.view_state.delivered)
  pub gives : IsGiven c.chunks i.view.id i.state given
  pub readable : ForSome given (λ bytes. IsSome (meaning.decode bytes))

abbrev pub Allowed : {S : Type 0} → Meaning S → Option Posted → Core S → Act → Type 0
Allowed meaning came c Creates = MayCreate c
Allowed meaning came c Joins = c.view ≡ None
Allowed meaning came c (Puts q body) = Describes c q body
Allowed meaning came c (Sends v payload) = MaySend c v payload
Allowed meaning came c (Queues v e waiting) = MayQueue came c v e waiting
Allowed meaning came c (Orders v e waiting held) = MayOrder c v e waiting held
Allowed meaning came c (TakesAck v q n) = MayTakeAck came c v q n
Allowed meaning came c (Collects v t held) = MayCollect came c v t held
Allowed meaning came c (Holds v g e held) = MayHold came c v g e held
Allowed meaning came c (Delivers v e) = MayDeliver c v e
Allowed meaning came c (Promises w) = MayPromise came c w
Allowed meaning came c (Begins w) = MayBegin c w
Allowed meaning came c (Records f q r) = MayRecord came c f q r
Allowed meaning came c (Gathers w chunk chunks) = MayGather came c w chunk chunks
Allowed meaning came c (Finishes v f cuts given) = MayFinish meaning c v f cuts given
Allowed meaning came c (Enters i given) = MayEnter meaning came c i given
Allowed meaning came c Leaves = Unit {0}

-- ---- what an act leaves

-- the first view that a member makes, of itself alone
abbrev pub lone_view : Address → View
lone_view p = record { id = record { counter = 1; creator = p }; members = p ∷ [] }

-- in a new view, with nothing carried over
abbrev pub gone_into : {S : Type 0} → View → S → List (Address × wire.Install) → Option (List ℕ) → Core S → Core S
gone_into w s kept kept_state c = record {
  me = c.me;
  connected = true;
  promise = Some w;
  installed = true;
  view = Some w;
  view_state = fresh_view_core;
  flush = None;
  sent_installs = kept;
  kept_state = kept_state;
  chunks = [];
  state = s;
}

-- the chunks that are held on: those of the promise, where it is only promised again
abbrev pub chunks_for : {S : Type 0} → View → Core S → List (ViewId × wire.Chunk)
chunks_for w c = if option_eq same_view_id (id_of c.promise) (Some w.id) then c.chunks else []

-- a proposal is promised; a flush of its own goes on only if this is it
abbrev pub promised : {S : Type 0} → View → Option FlushModel → Core S → Core S
promised w flush c = record c { promise = Some w; installed = false; flush = flush; chunks = chunks_for w c }

-- a flush that begins: the member's own report is in it
abbrev pub begun : {S : Type 0} → View → Core S → FlushModel
begun w c = record { proposal = w.id; members = w.members; reports = (c.me, report_with c.view c.view_state) ∷ [] }

-- what a member delivers when it goes from a view by a cut; nothing without a view
abbrev pub delivered_at : {S : Type 0} → Core S → ℕ → List Entry → List Entry
delivered_at c base items = option_map_or (λ v. undelivered c.view_state.delivered base items) c.view []

-- the state with which a member goes into a view
abbrev pub state_into : {S : Type 0} → Meaning S → Core S → List Entry → Option (List ℕ) → S
state_into meaning c entries given = unwrap_or (option_and_then meaning.decode given) (applied meaning c.state entries)

-- the proposal of a flush
abbrev pub proposed : FlushModel → View
proposed f = record { id = f.proposal; members = f.members }

abbrev pub base_for : Cuts → Option ViewId → ℕ
base_for cuts v = option_map_or cuts.base v 0

abbrev pub items_for : Cuts → Option ViewId → List Entry
items_for cuts v = option_map_or cuts.items v []

-- the instruction to go into the proposal of a flush, for one who reported this: with a state if it comes from another view than the flush's coordinator
abbrev pub instruction : FlushModel → Cuts → ViewId → GivenState → Address → Report → wire.Install
instruction f cuts v state q r = record {
  view = proposed f;
  together = together_of q f;
  base = base_for cuts r.previous;
  items = items_for cuts r.previous;
  state = if option_eq same_view_id r.previous (Some v) then forms.Nothing else state;
}

abbrev pub instruction_for : FlushModel → Cuts → ViewId → GivenState → Address → wire.Install
instruction_for f cuts v state q = instruction f cuts v state q (unwrap_or (report_from q f.reports) nothing_reported)

-- the instructions to all others of the list
abbrev pub instructions : {S : Type 0} → Core S → View → FlushModel → Cuts → GivenState → List (Address × wire.Install)
instructions c v f cuts state =
    map (λ q. (q, instruction_for f cuts v.id state q)) (others_of c.me f.members)

-- an acknowledgement never lowers what is known
abbrev pub heard : Address → ℕ → (Address → ℕ) → Address → ℕ
heard q n acks p = if same_address p q then max (acks p) n else acks p

-- one more of a sender's messages is ordered
abbrev pub one_more : Address → (Address → ℕ) → Address → ℕ
one_more q ordered p = if same_address p q then ordered p + 1 else ordered p

abbrev pub with_view_core : {S : Type 0} → ViewCore → Core S → Core S
with_view_core t c = record c { view_state = t }

-- the core after an act; None once the member has left
abbrev pub after : {S : Type 0} → Meaning S → Core S → Act → Option (Core S)
after meaning c Creates = Some (gone_into (lone_view c.me) c.state [] None c)
after meaning c Joins = Some (record c { connected = true })
after meaning c (Puts q body) = Some c
after meaning c (Sends v payload) =
    let t = c.view_state in
    Some (with_view_core (record t { sent = t.sent + 1; outstanding = t.outstanding ++ record { number = t.sent + 1; payload = payload } ∷ [] }) c)
after meaning c (Queues v e waiting) = let t = c.view_state in Some (with_view_core (record t { waiting = waiting }) c)
after meaning c (Orders v e waiting held) =
    let t = delivered_more c.me (e ∷ []) c.view_state in
    Some (record c {
      view_state = record t { waiting = waiting; held = held; ordered = one_more e.sender t.ordered };
      state = applied meaning c.state (e ∷ []);
    })
after meaning c (TakesAck v q n) = let t = c.view_state in Some (with_view_core (record t { acks = heard q n t.acks }) c)
after meaning c (Collects v n held) = let t = c.view_state in Some (with_view_core (record t { stable = max t.stable n; held = held }) c)
after meaning c (Holds v g e held) = let t = c.view_state in Some (with_view_core (record t { held = held }) c)
after meaning c (Delivers v e) = Some (record c { view_state = delivered_more c.me (e ∷ []) c.view_state; state = applied meaning c.state (e ∷ []) })
after meaning c (Promises w) = Some (promised w None c)
after meaning c (Begins w) = Some (promised w (Some (begun w c)) c)
after meaning c (Records f q r) = Some (record c { flush = Some (record f { reports = f.reports ++ (q, r) ∷ [] }) })
after meaning c (Gathers w chunk chunks) = Some (record c { chunks = chunks })
after meaning c (Finishes v f cuts given) =
    let z = state_after_cut meaning c v cuts in Some (gone_into (proposed f) z (instructions c v f cuts given) (kept_bytes given (meaning.encode z)) c)
after meaning c (Enters i given) = Some (gone_into i.view (state_into meaning c (delivered_at c i.base i.items) given) [] None c)
after meaning c Leaves = None

-- ---- what an act puts out

-- the chunks of a state that is given in chunks
abbrev pub chunk_packets : Address → Address → ViewId → List ℕ → GivenState → List Posted
chunk_packets p q w state forms.Nothing = []
chunk_packets p q w state (forms.Whole bytes) = []
chunk_packets p q w state (forms.Chunked total) = map (λ chunk. packet p (bodies.State w chunk) q) (chunks_of state)

-- an instruction, behind the chunks of the state that it gives
abbrev pub instructing_one : Address → ViewId → List ℕ → Address × wire.Install → List Posted
instructing_one p w state x = chunk_packets p x.0 w state x.1.state ++ packet p (bodies.Install x.1) x.0 ∷ []

abbrev pub packets_of : {S : Type 0} → Meaning S → Core S → Act → List Posted
packets_of meaning c Creates = []
packets_of meaning c Joins = []
packets_of meaning c (Puts q body) = packet c.me body q ∷ []
packets_of meaning c (Sends v payload) = []
packets_of meaning c (Queues v e waiting) = []
packets_of meaning c (Orders v e waiting held) = []
packets_of meaning c (TakesAck v q n) = []
packets_of meaning c (Collects v n held) = []
packets_of meaning c (Holds v g e held) = []
packets_of meaning c (Delivers v e) = []
packets_of meaning c (Promises w) = packet c.me (bodies.Report w.id (report_with c.view c.view_state)) w.id.creator ∷ []
packets_of meaning c (Begins w) = map (packet c.me (bodies.Flush w)) (others_of c.me w.members)
packets_of meaning c (Records f q r) = []
packets_of meaning c (Gathers w chunk chunks) = []
packets_of meaning c (Finishes v f cuts given) =
    flat_map (instructing_one c.me f.proposal (meaning.encode (state_after_cut meaning c v cuts))) (instructions c v f cuts given)
packets_of meaning c (Enters i given) = []
packets_of meaning c Leaves = []

-- ---- what happens by an act

abbrev pub delivery : Address → ViewId → Entry → Event
delivery p v e = Delivered (record { member = p; view = v; message = message_for e })

-- a member delivers entries in the view from which it goes
abbrev pub deliveries : Address → Option View → List Entry → List Event
deliveries p v entries = option_map_or (λ u. map (delivery p u.id) entries) v []

-- a member goes into a view: it delivers some last entries, and what was not delivered of its own messages is handed back
abbrev pub entering : {S : Type 0} → Core S → List Entry → View → List Address → Option (List ℕ) → List Event
entering c entries w together given =
    deliveries c.me c.view entries
    ++ Installed (record {
      member = c.me;
      previous = id_of c.view;
      view = w;
      together = together;
      handed_back = option_map_or (λ v. left_of c.me entries c.view_state.outstanding) c.view [];
      given = given;
    })
    ∷ []

-- a member that was open is blocked
abbrev pub blocking : {S : Type 0} → Core S → List Event
blocking c = if is_open c.view c.installed then Blocked c.me ∷ [] else []

abbrev pub events_of : {S : Type 0} → Core S → Act → List Event
events_of c Creates = entering c [] (lone_view c.me) (c.me ∷ []) None
events_of c Joins = []
events_of c (Puts q body) = []
events_of c (Sends v payload) = Sent (record { member = c.me; view = v.id; message = record { number = c.view_state.sent + 1; payload = payload } }) ∷ []
events_of c (Queues v e waiting) = []
events_of c (Orders v e waiting held) = delivery c.me v.id e ∷ []
events_of c (TakesAck v q n) = []
events_of c (Collects v n held) = []
events_of c (Holds v g e held) = []
events_of c (Delivers v e) = delivery c.me v.id e ∷ []
events_of c (Promises w) = blocking c
events_of c (Begins w) = blocking c
events_of c (Records f q r) = []
events_of c (Gathers w chunk chunks) = []
events_of c (Finishes v f cuts given) = entering c (undelivered c.view_state.delivered (cuts.base v.id) (cuts.items v.id)) (proposed f) (together_of c.me f) None
events_of c (Enters i given) = entering c (delivered_at c i.base i.items) i.view i.together given
events_of c Leaves = Left c.me ∷ []

-- ---- what a member is handed

-- a packet is handed to a member that is connected, where it is for it and from another
abbrev pub handed : {S : Type 0} → Core S → Posted → Option Posted
handed c m = if c.connected && same_address m.destination c.me && not (same_address m.source c.me) then Some m else None
