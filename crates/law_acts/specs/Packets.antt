-- What holds of each packet that was put out, and of each install, from then on.
use Rattle.std.specs.Prelude.{◌≡◌, ℕ, ◌+◌, ◌<◌, ◌≤◌, true, false, Option, None, Some, List, [], filter, length, is_some, slice_get, if◌then◌else◌}
use Rattle.std.specs.Option.{ForSome, IsSomeAnd, option_map, option_eq}
use Rattle.address.specs.Ids.{Address, ViewId, same_address, same_view_id}
use Rattle.view.specs.Members.{View, stands_in}
use Rattle.view.specs.View.{view_refusal}
use Rattle.address.specs.declared.limits.TheConstants.{WINDOW}
use Rattle.wire_values.specs.Values.{Entry, held_at, Report}
use Rattle.wire_values.specs.Values as wire
use Rattle.wire_values.specs.declared.packet.Body.{Body}
use Rattle.wire_values.specs.declared.packet.Body.TheVariants as bodies
use Rattle.wire_values.specs.Posted.{Posted}
use Rattle.state_transfer.specs.Meanings.{Meaning}
use Rattle.trace_props.specs.declared.event.Event.{Event}
use Rattle.trace_props.specs.declared.event.Install.{Install}
use Rattle.trace_props.specs.Observed.{sent_in, entry_of}
use Rattle.trace_props.specs.State.{entry_state}
use Rattle.law_acts.specs.Words.{list_of, order_of, members_of, open_count, IsClosed}
use Rattle.law_acts.specs.Histories.{History, flush_of, report_of, install_of, goes_from, goes_with}
use Rattle.law_acts.specs.Given.{Tells, chunk_at}
use Rattle.law_acts.specs.Cores.{applied}

-- ---- what a message and a count mean

-- the entry at a number of a view's order, counted from 1
abbrev pub IsOrdered : List Event → ViewId → ℕ → Entry → Type 0
IsOrdered t v g e = (k : ℕ) → g ≡ k + 1 → slice_get (order_of v t) k ≡ Some e

-- its sender sent it in the view, under its number
abbrev pub IsSent : List Event → ViewId → Entry → Type 0
IsSent t v e = (k : ℕ) → e.number ≡ k + 1 → slice_get (sent_in e.sender v t) k ≡ Some (record { number = e.number; payload = e.payload })

-- each member of the view delivered so many before it was blocked there, give or take some
abbrev pub AllHave : List Event → ViewId → ℕ → ℕ → Type 0
AllHave t v n less = (q : Address) → stands_in q (members_of v t) ≡ true → n ≤ open_count q v t + less

-- all that is held stands in the view's order
abbrev pub HoldsOrder : List Event → ViewId → List (ℕ × Entry) → Type 0
HoldsOrder t v held = (g : ℕ) (e : Entry) → held_at g held ≡ Some e → IsOrdered t v g e

-- all is held that lies past a number, up to another
abbrev pub HoldsAll : ℕ → ℕ → List (ℕ × Entry) → Type 0
HoldsAll s d held = (g : ℕ) → s < g → g ≤ d → is_some (held_at g held) ≡ true

-- ---- a FLUSH

-- its source proposes the view, and there is one list for it
pub record IsProposal (h : History) (p : Address) (w : View) : Type 0 where
  pub own : w.id.creator ≡ p
  pub view : view_refusal w.id w.members ≡ None
  pub one : flush_of w.id h.pool ≡ Some w.members

-- ---- a REPORT

-- what a member says of the view from which it comes: it is a member of it and is blocked there for good
pub record SaysOf (t : List Event) (p : Address) (r : Report) (v : ViewId) : Type 0 where
  pub closed : IsClosed p v t
  pub entered : is_some (entry_of p v t) ≡ true
  pub member : stands_in p (members_of v t) ≡ true
  pub delivered : r.delivered ≡ open_count p v t
  pub all : HoldsAll r.stable r.delivered r.held
  pub order : HoldsOrder t v r.held
  pub stable : AllHave t v r.stable 0

-- its source is not the coordinator, reports once, and says what is so
pub record IsAnswer (h : History) (p : Address) (w : ViewId) (r : Report) : Type 0 where
  pub other : same_address p w.creator ≡ false
  pub one : report_of p w h.pool ≡ Some r
  pub true_of : ForSome r.previous (SaysOf h.trace p r)

-- ---- an INSTALL

-- its items follow the base in the order of the view from which the reporter comes, from at most what it had to at least that
pub record IsCutOf (t : List Event) (base : ℕ) (items : List Entry) (r : Report) (v : ViewId) : Type 0 where
  pub low : base ≤ r.delivered
  pub high : r.delivered ≤ base + length items
  pub order : (j : ℕ) (e : Entry) → slice_get items j ≡ Some e → slice_get (order_of v t) (base + j) ≡ Some e

-- up to which number of its previous view's order one delivers by an INSTALL
abbrev pub end_of : wire.Install → ℕ
end_of i = i.base + length i.items

-- whether each of a list has said from where it comes
abbrev pub AllAnswered : History → ViewId → List Address → Type 0
AllAnswered h w members = (m : Address) → stands_in m members ≡ true → is_some (goes_from h w m) ≡ true

-- the view was announced with its members, and its coordinator is in it, with the same members and from some view; all have reported, and so have those who are
-- instructed to go into it
pub record IsLed (h : History) (w : ViewId) (i : wire.Install) : Type 0 where
  pub announced : flush_of w h.pool ≡ Some i.view.members
  pub entered : is_some (entry_of w.creator w h.trace) ≡ true
  pub members : members_of w h.trace ≡ i.view.members
  pub from : (e : Install) → entry_of w.creator w h.trace ≡ Some e → is_some e.previous ≡ true
  pub complete : AllAnswered h w i.view.members
  pub answered : (m : Address) (j : wire.Install) → install_of w m h.pool ≡ Some j → is_some (report_of m w h.pool) ≡ true

-- the cut, and who comes along, for one who reported this
pub record IsFitting (h : History) (w : ViewId) (q : Address) (i : wire.Install) (r : Report) : Type 0 where
  pub cut : ForSome r.previous (IsCutOf h.trace i.base i.items r)
  -- who comes from no view is told of no message
  pub newcomer : r.previous ≡ None → (i.base ≡ 0) × (i.items ≡ [])
  pub together : i.together ≡ filter (goes_with h w r.previous) i.view.members
  -- all who come from there go on at one end
  pub same : (m : Address) (j : wire.Install) (s : Report) → install_of w m h.pool ≡ Some j → report_of m w h.pool ≡ Some s → s.previous ≡ r.previous → end_of j ≡ end_of i
  -- the coordinator too
  pub coordinator : (e : Install) (v : ViewId) → entry_of w.creator w h.trace ≡ Some e → e.previous ≡ Some v → r.previous ≡ Some v
      → length (list_of w.creator v h.trace) ≡ end_of i

-- its source made the view, sends one instruction to each, and it fits what that one reported
pub record IsInstruction (h : History) (p q : Address) (i : wire.Install) : Type 0 where
  pub own : i.view.id.creator ≡ p
  pub other : same_address q p ≡ false
  pub one : install_of i.view.id q h.pool ≡ Some i
  pub listed : stands_in q i.view.members ≡ true
  pub led : IsLed h i.view.id i
  pub fits : ForSome (report_of q i.view.id h.pool) (IsFitting h i.view.id q i)

-- ---- packets of the order

-- the coordinator of the view, which is in it, says this
pub record IsCoordinator (t : List Event) (p : Address) (v : ViewId) : Type 0 where
  pub own : v.creator ≡ p
  pub entered : is_some (entry_of p v t) ≡ true

-- an ORDER is the coordinator's, its entry stands there in the view's order, and each member delivered, before it was blocked, all that lies `WINDOW` below
pub record IsOrder (t : List Event) (p : Address) (v : ViewId) (g : ℕ) (e : Entry) : Type 0 where
  pub coordinator : IsCoordinator t p v
  pub order : IsOrdered t v g e
  pub near : AllHave t v g WINDOW

-- a STATUS is the coordinator's, and each member delivered, before it was blocked, all that it calls stable
pub record IsStatus (t : List Event) (p : Address) (v : ViewId) (stable : ℕ) : Type 0 where
  pub coordinator : IsCoordinator t p v
  pub all : AllHave t v stable 0

-- ---- what holds of a packet from one address to another

abbrev pub BodyFact : History → Address → Address → Body → Type 0
BodyFact h p q bodies.Join = Unit {0}
BodyFact h p q (bodies.Redirect coordinator) = Unit {0}
BodyFact h p q bodies.Leave = Unit {0}
BodyFact h p q (bodies.Forward view number payload) = IsSent h.trace view (record { sender = p; number = number; payload = payload })
BodyFact h p q (bodies.Order view place entry) = IsOrder h.trace p view place entry
BodyFact h p q (bodies.Nak view missing) = Unit {0}
BodyFact h p q (bodies.Ack view delivered) = delivered ≤ open_count p view h.trace
BodyFact h p q (bodies.Status view progress) = IsStatus h.trace p view progress.stable
BodyFact h p q (bodies.Flush proposal) = IsProposal h p proposal
BodyFact h p q (bodies.Behind proposal counter) = Unit {0}
BodyFact h p q (bodies.Report proposal report) = IsAnswer h p proposal report
BodyFact h p q (bodies.Install install) = IsInstruction h p q install
BodyFact h p q (bodies.Merge view) = Unit {0}
BodyFact h p q (bodies.State proposal chunk) = Unit {0}

abbrev pub PacketFact : History → Posted → Type 0
PacketFact h m = BodyFact h m.source m.destination m.body

-- ---- what holds of a member's install of a view

-- the coordinator has installed the view; who installs it reported from where it came, is together with all who reported the same, and was instructed by an INSTALL
pub record IsEntry (h : History) (q : Address) (w : ViewId) (e : Install) : Type 0 where
  -- the coordinator has installed it
  pub led : is_some (entry_of w.creator w h.trace) ≡ true
  pub from : goes_from h w q ≡ Some e.previous
  pub complete : AllAnswered h w e.view.members
  pub together : e.together ≡ filter (goes_with h w e.previous) e.view.members
  -- all but the coordinator were instructed to, and had then delivered the order up to its end
  pub instructed : same_address q w.creator ≡ false → is_some (install_of w q h.pool) ≡ true
  pub end : (i : wire.Install) (v : ViewId) → same_address q w.creator ≡ false → install_of w q h.pool ≡ Some i → e.previous ≡ Some v
      → length (list_of q v h.trace) ≡ end_of i

-- ---- states

-- the state that all who delivered a view's order up to somewhere have: that of its beginning, with these applied; None where nobody has begun it
abbrev pub state_with : {S : Type 0} → Meaning S → ViewId → List Entry → List Event → Option S
state_with meaning v entries t = option_map (λ s. applied meaning s entries) (entry_state meaning v t)

-- an INSTALL gives the state with which its view begins to all who come from another view than its coordinator
abbrev pub GivesState : {S : Type 0} → Meaning S → History → Address → wire.Install → Type 0
GivesState meaning h q i = (e : Install) (r : Report) → entry_of i.view.id.creator i.view.id h.trace ≡ Some e → report_of q i.view.id h.pool ≡ Some r
    → Tells i.state (if option_eq same_view_id r.previous e.previous then None else option_map meaning.encode (entry_state meaning i.view.id h.trace))

-- a chunk is one of the state with which its view begins
abbrev pub IsPiece : {S : Type 0} → Meaning S → List Event → ViewId → wire.Chunk → Type 0
IsPiece meaning t w chunk = IsSomeAnd (entry_state meaning w t) (λ s. chunk ≡ chunk_at (meaning.encode s) chunk.index)

-- a chunk was put out for a proposal
abbrev pub WasPutOut : List Posted → ViewId → wire.Chunk → Type 0
WasPutOut pool w chunk = (k : ℕ) × (m : Posted) × (slice_get pool k ≡ Some m) × (m.body ≡ bodies.State w chunk)

-- a view begins with the state that its coordinator had at the end of the view from which it came
abbrev pub BeginsWith : {S : Type 0} → Meaning S → List Event → ViewId → Install → Type 0
BeginsWith meaning t w e = (v : ViewId) → e.previous ≡ Some v → state_with meaning v (list_of w.creator v t) t ≡ entry_state meaning w t
