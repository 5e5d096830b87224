-- The rules of a trace that speak of events and messages alone. docs/GUARANTEES.md says each in words.
use Rattle.std.specs.Prelude.{◌≡◌, ℕ, ◌+◌, ◌↔◌, true, false, Some, List, [], ◌++◌, slice_get, IsSome, MatchOption}
use Rattle.std.specs.Option.{ForSome}
use Rattle.std.specs.List.{Contains}
use Rattle.std.specs.declared.cmp.Ordering.TheVariants.{Less}
use Rattle.address.specs.Ids.{Address, ViewId, view_id_cmp}
use Rattle.view.specs.Members.{stands_in}
use Rattle.trace_props.specs.declared.event.Event.{Event}
use Rattle.trace_props.specs.declared.event.Event.TheVariants.{Started, Sent, Delivered, Blocked, Installed, Left, Crashed}
use Rattle.trace_props.specs.declared.event.Numbered.{Numbered}
use Rattle.trace_props.specs.declared.event.Message.{Message}
use Rattle.trace_props.specs.declared.event.Install.{Install}
use Rattle.trace_props.specs.Places.{EachEvent, IsBeginningOf}
use Rattle.trace_props.specs.Observed.{has_started, has_ended, current_view, is_blocked, delivered_in, sent_in, own, numbered}

-- WELL PLACED (sending view delivery)

-- a member runs: it has started, and neither left nor crashed
pub record IsRunning (p : Address) (t : List Event) : Type 0 where
  pub started : has_started p t ≡ true
  pub going : has_ended p t ≡ false

-- where an event may stand: a start comes once; all else while its member runs; sends and deliveries name the
-- current view; nothing is sent while blocked; a member with a view is blocked once
abbrev pub MayStand : List Event → Event → Type 0
MayStand past (Started p) = has_started p past ≡ false
MayStand past (Sent s) = IsRunning s.member past × (current_view s.member past ≡ Some s.view) × (is_blocked s.member past ≡ false)
MayStand past (Delivered d) = IsRunning d.member past × (current_view d.member past ≡ Some d.view)
MayStand past (Blocked p) = IsRunning p past × IsSome (current_view p past) × (is_blocked p past ≡ false)
MayStand past (Installed i) = IsRunning i.member past
MayStand past (Left p) = IsRunning p past
MayStand past (Crashed p) = IsRunning p past

abbrev pub IsWellPlaced : List Event → Type 0
IsWellPlaced t = EachEvent MayStand t

-- RISING VIEWS (self inclusion, local monotonicity, one membership)

abbrev pub IsBelow : ViewId → ViewId → Type 0
IsBelow v w = view_id_cmp v w ≡ Less

-- a member installs a view that has it, names the view from which it comes, and that one's id is lower
pub record EntersAbove (past : List Event) (i : Install) : Type 0 where
  pub inside : stands_in i.member i.view.members ≡ true
  pub previous : i.previous ≡ current_view i.member past
  pub rises : ForSome i.previous (λ v. IsBelow v i.view.id)

abbrev pub RisesAt : List Event → Event → Type 0
RisesAt past (Started p) = Unit {0}
RisesAt past (Sent s) = Unit {0}
RisesAt past (Delivered d) = Unit {0}
RisesAt past (Blocked p) = Unit {0}
RisesAt past (Installed i) = EntersAbove past i
RisesAt past (Left p) = Unit {0}
RisesAt past (Crashed p) = Unit {0}

-- P of each two installs of the trace, in either order, and of each with itself
abbrev pub EachTwoInstalls : (Install → Install → Type 0) → List Event → Type 0
EachTwoInstalls P t = (j k : ℕ) (e f : Install) → slice_get t j ≡ Some (Installed e) → slice_get t k ≡ Some (Installed f) → P e f

-- whoever installs a view is in it; the ids that a member installs rise; who installs the same id installs the same members
pub record HasRisingViews (t : List Event) : Type 0 where
  pub rises : EachEvent RisesAt t
  -- who installs the same view id installs the same members
  pub agrees : EachTwoInstalls (λ e f. e.view.id ≡ f.view.id → e.view.members ≡ f.view.members) t

-- SOUND MESSAGES (delivery integrity, no duplication)

-- a message that is delivered was sent before, in that view, by its sender
abbrev pub WasSent : List Event → Event → Type 0
WasSent past (Started p) = Unit {0}
WasSent past (Sent s) = Unit {0}
WasSent past (Delivered d) = Contains (sent_in d.message.sender d.view past) (numbered d.message)
WasSent past (Blocked p) = Unit {0}
WasSent past (Installed i) = Unit {0}
WasSent past (Left p) = Unit {0}
WasSent past (Crashed p) = Unit {0}

-- numbered 1, 2, .. without a gap
abbrev pub IsNumbered : List Numbered → Type 0
IsNumbered messages = (k : ℕ) (m : Numbered) → slice_get messages k ≡ Some m → m.number ≡ k + 1

-- no message, known by its sender and number, stands twice
abbrev pub IsOnce : List Message → Type 0
IsOnce messages = (j k : ℕ) (a b : Message) → slice_get messages j ≡ Some a → slice_get messages k ≡ Some b → a.sender ≡ b.sender → a.number ≡ b.number → j ≡ k

-- sends are numbered without a gap; what is delivered was sent, is delivered once, and is a beginning of what its sender sent
pub record HasSoundMessages (t : List Event) : Type 0 where
  pub numbers : (p : Address) (v : ViewId) → IsNumbered (sent_in p v t)
  pub sent : EachEvent WasSent t
  pub once : (p : Address) (v : ViewId) → IsOnce (delivered_in p v t)
  -- of each sender, a beginning of what it sent
  pub in_turn : (p q : Address) (v : ViewId) → IsBeginningOf (own q (delivered_in p v t)) (sent_in q v t)

-- ONE ORDER

-- what a member delivered in a view is a beginning of what the view's coordinator delivered there
abbrev pub HasOneOrder : List Event → Type 0
HasOneOrder t = (p : Address) (v : ViewId) → IsBeginningOf (delivered_in p v t) (delivered_in v.creator v t)

-- SAME NEXT VIEW, SAME LIST (virtual synchrony)

-- two members that went from one view to the same next view delivered the same messages there
abbrev pub HasSameNext : List Event → Type 0
HasSameNext t = EachTwoInstalls
    (λ e f. e.view.id ≡ f.view.id → (v : ViewId) → e.previous ≡ Some v → f.previous ≡ Some v → delivered_in e.member v t ≡ delivered_in f.member v t) t

-- TOGETHER (transitional set)

-- each address of the first list stands in the second
abbrev pub LiesWithin : List Address → List Address → Type 0
LiesWithin ps qs = (q : Address) → stands_in q ps ≡ true → stands_in q qs ≡ true

-- whom a member is told to come with it: exactly those of the view's installers that come from the same view
pub record KnowsTogether (t : List Event) : Type 0 where
  -- the set lies within the view's members
  pub within_view : (k : ℕ) (e : Install) → slice_get t k ≡ Some (Installed e) → LiesWithin e.together e.view.members
  -- and within those of the view from which the member came
  pub within_previous : EachTwoInstalls (λ e f. e.previous ≡ Some f.view.id → LiesWithin e.together f.view.members) t
  -- who has installed the same view is in it exactly if it came from the same view
  pub exact : EachTwoInstalls (λ e f. e.view.id ≡ f.view.id → (stands_in f.member e.together ≡ true) ↔ (f.previous ≡ e.previous)) t

-- HANDED BACK

-- what a member sent in the old view is its own messages that it delivered there, and then those handed back
abbrev pub GivesBack : List Event → Event → Type 0
GivesBack past (Started p) = Unit {0}
GivesBack past (Sent s) = Unit {0}
GivesBack past (Delivered d) = Unit {0}
GivesBack past (Blocked p) = Unit {0}
GivesBack past (Installed i) = MatchOption i.previous (i.handed_back ≡ []) (λ v. sent_in i.member v past ≡ own i.member (delivered_in i.member v past) ++ i.handed_back)
GivesBack past (Left p) = Unit {0}
GivesBack past (Crashed p) = Unit {0}

abbrev pub HandsBack : List Event → Type 0
HandsBack t = EachEvent GivesBack t
