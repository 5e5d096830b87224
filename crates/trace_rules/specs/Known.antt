-- What a checker keeps of the past: tables by member, view or both, and what each says of the trace so far.
use Rattle.std.specs.Prelude.{◌≡◌, ℕ, Bool, true, false, ◌&&◌, Option, None, Some, List, [], ◌∷◌, ◌++◌, ⊤, MatchOption, map, length}
use Rattle.std.specs.Option.{option_copied}
use Rattle.std.specs.Borrow.{Bor}
use Rattle.std.specs.HashMap.{get}
use Rattle.address.specs.Ids.{Address, ViewId, same_address, same_view_id}
use Rattle.trace_props.specs.declared.event.Event.{Event}
use Rattle.trace_props.specs.declared.event.Event.TheVariants.{Started, Sent, Delivered, Blocked, Installed}
use Rattle.trace_props.specs.declared.event.Numbered.{Numbered}
use Rattle.trace_props.specs.declared.event.Message.{Message}
use Rattle.trace_props.specs.declared.event.Install.{Install}
use Rattle.trace_rules.specs.declared.known.keys.MemberInView.{MemberInView}
use Rattle.trace_rules.specs.declared.known.in_views.InView.{InView}
use Rattle.trace_rules.specs.declared.known.keys.ViewChange.{ViewChange}
use Rattle.trace_rules.specs.declared.known.standing.Standing.{Standing}
use Rattle.trace_rules.specs.declared.known.tables.Tables.{Tables}
use Rattle.trace_rules.specs.Lasts.{number_of}
use Rattle.trace_props.specs.Observed.{has_started, has_ended, is_blocked, current_view, delivered_in, sent_in, own, entry_of, first_install}
use Rattle.trace_props.specs.Agreeing.{first_from}

-- the same member in the same view
abbrev pub same_in_view : MemberInView → MemberInView → Bool
same_in_view a b = same_address a.member b.member && same_view_id a.view b.view

abbrev pub same_view_change : ViewChange → ViewChange → Bool
same_view_change a b = same_view_id a.to b.to && same_view_id a.from b.from

-- what references point to
abbrev pub pointed : {T : Type 0} → List (Bor T) → List T
pointed items = map (λ b. b.now) items

-- WHAT IS KEPT OF A MEMBER IN A VIEW

-- the member that does something in a view, and the view
abbrev pub place_of : Event → Option MemberInView
place_of (Sent s) = Some (record { member = s.member; view = s.view })
place_of (Delivered d) = Some (record { member = d.member; view = d.view })
place_of (Installed i) = Some (record { member = i.member; view = i.view.id })
place_of h = None

-- its install of it, none where nothing is kept of it
abbrev pub entry_kept : Option InView → Option Install
entry_kept None = None
entry_kept (Some k) = option_copied k.entry

-- what it sent
abbrev pub sent_kept : Option InView → List Numbered
sent_kept None = []
sent_kept (Some k) = pointed k.sent.items

-- what it delivered
abbrev pub delivered_kept : Option InView → List Message
delivered_kept None = []
delivered_kept (Some k) = pointed k.delivered.items

-- the number of the last message of a sender that it delivered, 0 before the first
abbrev pub last_kept : Option InView → Address → ℕ
last_kept None q = 0
last_kept (Some k) q = number_of k.lasts.items q

-- it is what the trace says of it: a sender's last message has the number that says how many of that sender's were delivered
pub record Says (kept : Option InView) (member : Address) (view : ViewId) (t : List Event) : Type 0 where
  pub entry : entry_kept kept ≡ entry_of member view t
  pub sent : sent_kept kept ≡ sent_in member view t
  pub delivered : delivered_kept kept ≡ delivered_in member view t
  pub last : (q : Address) → last_kept kept q ≡ length (own q (delivered_in member view t))

-- and it still is, after what the member did next there
abbrev pub Follows : Option InView → Option InView → List Event → Event → Type 0
Follows old new t h = MatchOption (place_of h) ⊤ (λ s. Says old s.member s.view t → Says new s.member s.view (t ++ h ∷ []))

abbrev pub KnowsInViews : (MemberInView → Option InView) → List Event → Type 0
KnowsInViews m t = (s : MemberInView) → Says (m s) s.member s.view t

-- HOW MEMBERS STAND

abbrev pub fresh : Standing
fresh = record { started = false; ended = false; blocked = false; view = None }

-- how a member stands of whom this is kept
abbrev pub stood : Option Standing → Standing
stood None = fresh
stood (Some s) = s

-- how the trace says that a member stands
abbrev pub standing_of : Address → List Event → Standing
standing_of p t = record { started = has_started p t; ended = has_ended p t; blocked = is_blocked p t; view = current_view p t }

-- how a member stands after what happens to it next
abbrev pub standing_after : Standing → Event → Standing
standing_after s (Started p) = record s { started = true }
standing_after s (Sent m) = s
standing_after s (Delivered d) = s
standing_after s (Blocked p) = record s { blocked = true }
standing_after s (Installed i) = record s { blocked = false; view = Some i.view.id }
standing_after s h = record s { ended = true }

abbrev pub KnowsStandings : (Address → Option Standing) → List Event → Type 0
KnowsStandings m t = (p : Address) → stood (m p) ≡ standing_of p t

-- INSTALLS

-- the first install of each view, and of each change of view
pub record KnowsInstalls (firsts : ViewId → Option (Bor Install)) (view_changes : ViewChange → Option (Bor Install)) (t : List Event) : Type 0 where
  pub firsts_known : (v : ViewId) → option_copied (firsts v) ≡ first_install v t
  pub view_changes_known : (w : ViewChange) → option_copied (view_changes w) ≡ first_from w.from w.to t

-- ALL OF IT

-- all that is kept says what the trace says
pub record KnowsPast (tables : Tables) (t : List Event) : Type 0 where
  pub standings_known : KnowsStandings (get same_address tables.standings) t
  pub in_views_known : KnowsInViews (get same_in_view tables.in_views) t
  pub installs_known : KnowsInstalls (get same_view_id tables.firsts) (get same_view_change tables.view_changes) t
