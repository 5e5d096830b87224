-- What holds of each member that runs. Each fact is about the parts of the member that it names, and about the history.
use Rattle.std.specs.Prelude.{◌≡◌, ℕ, ◌+◌, ◌≤◌, Bool, true, false, Option, None, Some, List, ◌++◌, length, is_some, slice_get, MatchBool, if◌then◌else◌}
use Rattle.std.specs.Option.{ForSome, IsSomeAnd, option_map}
use Rattle.address.specs.Ids.{Address, ViewId, same_address}
use Rattle.view.specs.Members.{View, stands_in}
use Rattle.view.specs.View.{view_refusal}
use Rattle.address.specs.declared.limits.TheConstants.{WINDOW}
use Rattle.wire_values.specs.Values.{Entry, held_at, Report}
use Rattle.wire_values.specs.Values as wire
use Rattle.wire_values.specs.Posted.{Posted}
use Rattle.state_transfer.specs.Meanings.{Meaning}
use Rattle.flush.specs.Flushes.{FlushModel, report_from}
use Rattle.trace_props.specs.declared.event.Event.{Event}
use Rattle.trace_props.specs.declared.event.Numbered.{Numbered}
use Rattle.trace_props.specs.Rules.{IsRunning, IsBelow}
use Rattle.trace_props.specs.Observed.{current_view, is_blocked, delivered_in, sent_in, own, entry_of}
use Rattle.trace_props.specs.State.{state_of}
use Rattle.law_acts.specs.Words.{Open, Past, list_of, tally_of, open_count}
use Rattle.law_acts.specs.Histories.{History, flush_of, report_of, install_of}
use Rattle.law_acts.specs.Cores.{ViewCore, Core, install_sent_to, is_frozen, id_of, report_with}
use Rattle.law_acts.specs.Acts.{proposed}
use Rattle.law_acts.specs.Packets.{IsSent, AllHave, HoldsOrder, HoldsAll, state_with}

-- ---- what the trace says of it

-- it runs, at its own address; its current view, and whether it is blocked, are as it thinks
pub record HasStanding (t : List Event) (p me : Address) (view : Option View) (installed : Bool) : Type 0 where
  pub itself : me ≡ p
  pub running : IsRunning p t
  pub current : current_view p t ≡ id_of view
  pub block : is_blocked p t ≡ is_frozen view installed

-- ---- its view

-- the view that a member installed under an id
abbrev pub installed_as : Address → ViewId → List Event → Option View
installed_as p v t = option_map (λ e. e.view) (entry_of p v t)

-- it installed it, so did the view's coordinator, and it is one of the members
pub record IsInside (t : List Event) (p : Address) (v : View) : Type 0 where
  pub own : installed_as p v.id t ≡ Some v
  pub first : installed_as v.id.creator v.id t ≡ Some v
  pub listed : stands_in p v.members ≡ true

-- ---- its promise

-- of views that are promised this is at least as high
abbrev pub IsNotPast : Option View → ViewId → Type 0
IsNotPast promise w = IsSomeAnd promise (λ u. IsBelow u.id w → ⊥)

-- the promise is the view where that is installed, and lies above it where not
pub record PromiseOf (p : Address) (promise view : Option View) (installed : Bool) : Type 0 where
  pub inside : installed ≡ true → is_some view ≡ true
  pub is : installed ≡ true → promise ≡ view
  pub above : installed ≡ false → ForSome view (λ v. IsSomeAnd promise (λ w. IsBelow v.id w.id))
  pub listed : ForSome promise (λ w. stands_in p w.members ≡ true)

-- the promised proposal of another was announced
abbrev pub IsAnnounced : List Posted → Address → Option View → Type 0
IsAnnounced pool p promise = ForSome promise (λ w. same_address w.id.creator p ≡ false → flush_of w.id pool ≡ Some w.members)

-- what it ever announced or reported for does not lie past its promise
pub record LiesBelow (pool : List Posted) (p : Address) (promise : Option View) : Type 0 where
  pub announced : (w : ViewId) (list : List Address) → same_address w.creator p ≡ true → flush_of w pool ≡ Some list → IsNotPast promise w
  pub reported : (w : ViewId) (r : Report) → report_of p w pool ≡ Some r → IsNotPast promise w

-- while it waits for the promised proposal of another, its report is what it is
abbrev pub IsReported : List Posted → Address → Option View → Bool → Option View → ViewCore → Type 0
IsReported pool p promise installed view view_state =
    installed ≡ false → ForSome promise (λ w. same_address w.id.creator p ≡ false → report_of p w.id pool ≡ Some (report_with view view_state))

-- ---- its own flush

-- a report that it recorded is its own, or was put out
abbrev pub IsRecorded : List Posted → Address → ViewId → Report → Address × Report → Type 0
IsRecorded pool p w mine x = MatchBool (same_address x.0 p) (x.1 ≡ mine) (report_of x.0 w pool ≡ Some x.1)

-- it is for the promise, which is its own proposal, and it was announced to all others of the list
pub record RunsFlush (pool : List Posted) (p : Address) (promise : Option View) (installed : Bool) (view : Option View) (view_state : ViewCore) (f : FlushModel) : Type 0 where
  pub promised : promise ≡ Some (proposed f)
  pub waits : installed ≡ false
  pub own : f.proposal.creator ≡ p
  pub list : view_refusal f.proposal f.members ≡ None
  pub announced : (q : Address) → stands_in q f.members ≡ true → same_address q p ≡ false → flush_of f.proposal pool ≡ Some f.members
  pub itself : report_from p f.reports ≡ Some (report_with view view_state)
  pub recorded : (k : ℕ) (x : Address × Report) → slice_get f.reports k ≡ Some x → IsRecorded pool p f.proposal (report_with view view_state) x

-- ---- what it keeps

-- the instructions that it keeps are those that it put out for the view that it made
abbrev pub KeepsInstructions : List Posted → Address → List (Address × wire.Install) → View → Type 0
KeepsInstructions pool p kept v = (q : Address) (i : wire.Install) → install_sent_to q kept ≡ Some i → (v.id.creator ≡ p) × (install_of v.id q pool ≡ Some i)

-- ---- the traffic of its view

-- how many messages it delivered, and whether that is all that it will deliver while open
pub record HasCounts (t : List Event) (p : Address) (v : ViewId) (installed : Bool) (delivered : ℕ) : Type 0 where
  pub delivered_count : length (list_of p v t) ≡ delivered
  pub tally : tally_of p v t ≡ record { phase = if installed then Open else Past; count = delivered }

-- what it sent is its own messages that it delivered, and then the outstanding ones
pub record HasOwn (t : List Event) (p : Address) (v : ViewId) (number : ℕ) (outstanding : List Numbered) : Type 0 where
  pub sent : sent_in p v t ≡ own p (delivered_in p v t) ++ outstanding
  pub count : length (sent_in p v t) ≡ number

-- what it holds is the order's, and all that is not stable; what it takes as stable all members delivered
pub record HasWindow (t : List Event) (v : ViewId) (stable delivered : ℕ) (held : List (ℕ × Entry)) : Type 0 where
  pub order : HoldsOrder t v held
  pub all : HoldsAll stable delivered held
  pub near : (g : ℕ) → is_some (held_at g held) ≡ true → g ≤ stable + WINDOW
  pub all_have : AllHave t v stable 0

-- what the coordinator knows of others: acknowledgements are at most what was delivered, what waits was sent, what was ordered is counted
abbrev pub HasAcks : List Event → ViewId → (Address → ℕ) → Type 0
HasAcks t v acks = (q : Address) → acks q ≤ open_count q v t

abbrev pub HasWaiting : List Event → ViewId → List Entry → Type 0
HasWaiting t v waiting = (k : ℕ) (e : Entry) → slice_get waiting k ≡ Some e → IsSent t v e

abbrev pub HasOrdered : List Event → Address → ViewId → (Address → ℕ) → Type 0
HasOrdered t p v ordered = (q : Address) → same_address p v.creator ≡ true → ordered q ≡ length (own q (delivered_in p v t))

-- all that holds of a member's view
pub record ViewFact (h : History) (p : Address) (installed : Bool) (view_state : ViewCore) (kept : List (Address × wire.Install)) (v : View) : Type 0 where
  pub inside : IsInside h.trace p v
  pub counts : HasCounts h.trace p v.id installed view_state.delivered
  pub mine : HasOwn h.trace p v.id view_state.sent view_state.outstanding
  pub window : HasWindow h.trace v.id view_state.stable view_state.delivered view_state.held
  pub acks : HasAcks h.trace v.id view_state.acks
  pub waiting : HasWaiting h.trace v.id view_state.waiting
  pub ordered : HasOrdered h.trace p v.id view_state.ordered
  pub keeps : KeepsInstructions h.pool p kept v

-- ---- its state

-- its receiver's state is what the trace says, and one that a receiver can be in
pub record HasState {S : Type 0} (meaning : Meaning S) (t : List Event) (p : Address) (view : Option View) (state : S) : Type 0 where
  pub now : state_of meaning p t ≡ state
  pub is : meaning.is_state state
  -- in a view, that of the view's beginning with all applied that it delivered there
  pub in_view : ForSome view (λ v. state_with meaning v.id (list_of p v.id t) t ≡ Some state)

-- ---- all of it

-- docs/PROOF.md, "The invariant", says what each of these is needed for
pub record MemberFact {S : Type 0} (meaning : Meaning S) (h : History) (p : Address) (c : Core S) : Type 0 where
  pub standing : HasStanding h.trace p c.me c.view c.installed
  pub promise : PromiseOf p c.promise c.view c.installed
  pub announced : IsAnnounced h.pool p c.promise
  pub below : LiesBelow h.pool p c.promise
  pub reported : IsReported h.pool p c.promise c.installed c.view c.view_state
  pub flush : ForSome c.flush (RunsFlush h.pool p c.promise c.installed c.view c.view_state)
  pub view : ForSome c.view (ViewFact h p c.installed c.view_state c.sent_installs)
  pub state : HasState meaning h.trace p c.view c.state
