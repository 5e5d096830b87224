-- Where a trace's events, and the asides between them, stand in a picture: a row for each, a column for each member, and from where an event is reached.
use Rattle.std.specs.Prelude.{ℕ, ◌+◌, Bool, false, ◌&&◌, cond, Option, None, Some, List, [], ◌∷◌, ◌++◌, length, take, slice_get, nat_eq, nat_le, option_and_then, fold, filter_map, is_some, unwrap_or, option_map}
use Rattle.std.specs.Option.{option_or, option_map_or}
use Rattle.std.specs.List.{position_from}
use Rattle.address.specs.Ids.{Address, ViewId, same_address, same_view_id}
use Rattle.trace_props.specs.declared.event.Event.{Event}
use Rattle.trace_props.specs.declared.event.Event.TheVariants.{Started, Sent, Delivered, Blocked, Installed, Left, Crashed}
use Rattle.trace_props.specs.Observed.{member_of, install_of, is_blocked, has_ended}
use Rattle.trace_drawing.specs.declared.row.Row.{Row}
use Rattle.trace_drawing.specs.declared.row.Line.{Line}
use Rattle.trace_drawing.specs.declared.row.MessageKey.{MessageKey}
use Rattle.trace_drawing.specs.declared.aside.Aside.{Aside}
use Rattle.trace_drawing.specs.declared.aside.AsideRow.{AsideRow}

-- PLACES

-- the place of the first that passes a test, from 0
abbrev pub first_place : {X : Type 0} → (X → Bool) → List X → Option ℕ
first_place test xs = position_from test 0 xs

-- the place of the last that passes a test, where the list starts at a place
abbrev pub last_from : {X : Type 0} → (X → Bool) → ℕ → List X → Option ℕ
last_from test k [] = None
last_from test k (x ∷ xs) = option_or (last_from test (k + 1) xs) (cond (test x) (Some k) None)

-- the place of the last that passes a test, from 0
abbrev pub last_place : {X : Type 0} → (X → Bool) → List X → Option ℕ
last_place test xs = last_from test 0 xs

-- COLUMNS

-- the rank of a member among members
abbrev pub rank_in : Address → List Address → Option ℕ
rank_in p members = first_place (same_address p) members

-- a member comes up that has not come up before
abbrev pub come_up : List Address → Event → List Address
come_up members e = cond (is_some (rank_in (member_of e) members)) members (members ++ member_of e ∷ [])

-- the members of a trace, in the order in which they come up
abbrev pub members_in : List Event → List Address
members_in t = fold come_up [] t

-- the column of a member: its rank among those of the trace; the next one, where it has not come up
abbrev pub column_of : Address → List Event → ℕ
column_of p t = unwrap_or (rank_in p (members_in t)) (length (members_in t))

-- ROWS

-- how many asides stand above an event: the first ones that have no later place
abbrev pub above : List Aside → ℕ → ℕ
above [] k = 0
above (r ∷ rs) k = cond (nat_le r.place k) (above rs k + 1) 0

-- the level of an event: how many events and asides stand above it
abbrev pub level_of : List Aside → ℕ → ℕ
level_of asides k = k + above asides k

abbrev pub happens_to : Address → Event → Bool
happens_to p e = same_address (member_of e) p

-- the same message: the same view, sender and number
abbrev pub same_message : MessageKey → MessageKey → Bool
same_message a b = same_view_id a.view b.view && (same_address a.sender b.sender && nat_eq a.number b.number)

-- the message that an event sends
abbrev pub message_sent : Event → Option MessageKey
message_sent (Started p) = None
message_sent (Sent s) = Some (record { view = s.view; sender = s.member; number = s.message.number })
message_sent (Delivered d) = None
message_sent (Blocked p) = None
message_sent (Installed i) = None
message_sent (Left p) = None
message_sent (Crashed p) = None

-- the view that an event installs
abbrev pub view_installed : Event → Option ViewId
view_installed e = option_map (λ i. i.view.id) (install_of e)

abbrev pub sends : MessageKey → Event → Bool
sends m e = option_map_or (λ k. same_message k m) (message_sent e) false

abbrev pub installs : ViewId → Event → Bool
installs v e = option_map_or (λ w. same_view_id w v) (view_installed e) false

-- from where an event is reached: a delivery from where its message is sent, an install from where its view is installed
abbrev pub reached_by : (MessageKey → Option ℕ) → (ViewId → Option ℕ) → Event → Option ℕ
reached_by sent installed (Started p) = None
reached_by sent installed (Sent s) = None
reached_by sent installed (Delivered d) = sent (record { view = d.view; sender = d.message.sender; number = d.message.number })
reached_by sent installed (Blocked p) = None
reached_by sent installed (Installed i) = installed i.view.id
reached_by sent installed (Left p) = None
reached_by sent installed (Crashed p) = None

-- the row from which an event is reached: that of the send of a delivered message, or of the last install of an installed view
abbrev pub origin_of : List Event → Event → Option ℕ
origin_of past e = reached_by (λ m. last_place (sends m) past) (λ v. last_place (installs v) past) e

-- how the row of an event is laid out, given the levels of events and all that stands before it
abbrev pub row_of : (ℕ → ℕ) → List Event → Event → Row
row_of level past e = record {
  column = column_of (member_of e) past;
  level = level (length past);
  before = option_map level (last_place (happens_to (member_of e)) past);
  blocked = is_blocked (member_of e) past;
  origin = origin_of past e;
}

-- the rows of events that stand behind others
abbrev pub rows_from : (ℕ → ℕ) → List Event → List Event → List Row
rows_from level past [] = []
rows_from level past (e ∷ es) = row_of level past e ∷ rows_from level (past ++ e ∷ []) es

-- the rows of a trace: one for each event, in order
abbrev pub rows_of : (ℕ → ℕ) → List Event → List Row
rows_of level t = rows_from level [] t

-- MEMBERS' LINES

-- a member's line: in its column, from its first event to its last
abbrev pub member_line : (ℕ → ℕ) → List Event → Address → Option Line
member_line level t p = option_map (λ column. record {
  member = p;
  column = column;
  first = unwrap_or (option_map level (first_place (happens_to p) t)) 0;
  last = unwrap_or (option_map level (last_place (happens_to p) t)) 0;
  ended = has_ended p t;
  blocked = is_blocked p t;
}) (rank_in p (members_in t))

-- the lines of a trace's members, by column
abbrev pub member_lines : (ℕ → ℕ) → List Event → List Line
member_lines level t = filter_map (member_line level t) (members_in t)

-- ASIDES

-- the place up to which events stand before an aside, where others before it stand at a place
abbrev pub later : ℕ → ℕ → ℕ
later front place = cond (nat_le place front) front place

abbrev pub happens_at : ℕ → Event → Bool
happens_at node e = nat_eq (member_of e).node node

-- the column of an event, by its row
abbrev pub column_in : List Row → Option ℕ → Option ℕ
column_in rows event = option_and_then (λ k. option_map (λ r. r.column) (slice_get rows k)) event

-- where an aside is drawn: in the column of the last event of its node so far, below all that stands before it, and towards which column it goes
abbrev pub aside_row : List Row → List Event → ℕ → ℕ → Aside → AsideRow
aside_row rows t count front r = record {
  column = column_in rows (last_place (happens_at r.node) (take front t));
  towards = column_in rows (last_place (happens_at r.towards) (take front t));
  level = count + front;
  kind = r.kind;
}

-- where asides are drawn, behind so many others and so many events
abbrev pub asides_from : List Row → List Event → ℕ → ℕ → List Aside → List AsideRow
asides_from rows t count front [] = []
asides_from rows t count front (r ∷ rs) = aside_row rows t count (later front r.place) r ∷ asides_from rows t (count + 1) (later front r.place) rs

-- where asides are drawn
abbrev pub aside_rows : List Row → List Event → List Aside → List AsideRow
aside_rows rows t asides = asides_from rows t 0 0 asides
