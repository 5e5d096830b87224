-- Which marks are drawn of an event, and where.
use Rattle.std.specs.Prelude.{ℕ, Bool, true, false, ◌+◌, ◌-◌, ◌*◌, ◌/◌, cond, nat_lt, Option, None, Some, List, [], ◌∷◌, ◌++◌, slice_get, option_map, option_and_then, option_to_list}
use Rattle.trace_props.specs.declared.event.Event.{Event}
use Rattle.trace_props.specs.declared.event.Event.TheVariants.{Started, Sent, Delivered, Blocked, Installed, Left, Crashed}
use Rattle.trace_drawing.specs.declared.marks.TheConstants.{BLOCK, COLUMN, ROW, NAMES, MARGIN}
use Rattle.trace_drawing.specs.declared.aside.AsideRow.{AsideRow}
use Rattle.trace_drawing.specs.declared.row.Row.{Row}
use Rattle.trace_drawing.specs.declared.row.Line.{Line}
use Rattle.trace_drawing.specs.declared.marks.Place.{Place}
use Rattle.trace_drawing.specs.declared.marks.Mark.{Mark}
use Rattle.trace_drawing.specs.declared.marks.Mark.TheVariants as marks

-- PLACES, in points from the left and from the top

-- the middle of a column
abbrev pub x_of : ℕ → ℕ
x_of column = COLUMN * column + 110

-- the middle of a row, by its level: a line of names stands above each block of rows
abbrev pub y_of : ℕ → ℕ
y_of level = ROW * level + NAMES * (level / BLOCK) + 60

-- the foot of the names above a row
abbrev pub names_y : ℕ → ℕ
names_y level = (ROW * BLOCK + NAMES) * (level / BLOCK) + 34

-- where an event of a column is marked
abbrev pub place_of : ℕ → ℕ → Place
place_of level column = record { x = x_of column; y = y_of level }

-- the middle of a column; the margin, where nothing happened at a node before
abbrev pub x_in : Option ℕ → ℕ
x_in None = MARGIN
x_in (Some column) = x_of column

-- where an aside is marked
abbrev pub aside_place : AsideRow → Place
aside_place r = record { x = x_in r.column; y = y_of r.level }

-- MARKS OF AN EVENT

-- the event's own mark
abbrev pub own_mark : Event → Place → Mark
own_mark (Started p) at = marks.Start at
own_mark (Sent s) at = marks.Send at
own_mark (Delivered d) at = marks.Delivery at
own_mark (Blocked p) at = marks.Block at
own_mark (Installed i) at = marks.View at
own_mark (Left p) at = marks.Leave at
own_mark (Crashed p) at = marks.Crash at

-- the stretch of its member's line in which it was blocked, up to the event
abbrev pub blocked_stretch : Row → Option Mark
blocked_stretch row = cond row.blocked (option_map (λ before. marks.Hatch (place_of before row.column) (place_of row.level row.column)) row.before) None

-- the edge of a view's mark towards a column
abbrev pub edge_towards : ℕ → ℕ → ℕ → Place
edge_towards level from to = record { x = cond (nat_lt to from) (x_of from - 39) (x_of from + 39); y = y_of level }

abbrev pub is_delivery : Event → Bool
is_delivery (Started p) = false
is_delivery (Sent s) = false
is_delivery (Delivered d) = true
is_delivery (Blocked p) = false
is_delivery (Installed i) = false
is_delivery (Left p) = false
is_delivery (Crashed p) = false

-- the mark by which an event is reached from a row: a message's line to a delivery, a part of a view's band to an install
abbrev pub reach : Event → Row → Row → Mark
reach e from to = cond (is_delivery e) (marks.Message (place_of from.level from.column) (place_of to.level to.column)) (marks.Band (edge_towards from.level from.column to.column) (place_of to.level to.column))

-- the row from which an event is reached
abbrev pub origin_row : List Row → Row → Option Row
origin_row rows row = option_and_then (slice_get rows) row.origin

-- the mark by which an event is reached, if it is
abbrev pub link : List Row → Row → Event → Option Mark
link rows row e = option_map (λ from. reach e from row) (origin_row rows row)

-- all marks of an event: one of its own, and at most two that refer to earlier events
abbrev pub marks_of : List Row → Row → Event → List Mark
marks_of rows row e = option_to_list (blocked_stretch row) ++ option_to_list (link rows row e) ++ own_mark e (place_of row.level row.column) ∷ []

-- MEMBERS' LINES

-- a member's line, down to its last event, or to the bottom where it has not ended
abbrev pub line_mark : ℕ → Line → Mark
line_mark bottom l = marks.Lifeline (place_of l.first l.column) (record { x = x_of l.column; y = cond l.ended (y_of l.last) bottom })

-- the stretch in which a member is blocked when the trace ends
abbrev pub last_stretch : ℕ → Line → Option Mark
last_stretch bottom l = cond l.ended None (cond l.blocked (Some (marks.Hatch (place_of l.last l.column) (record { x = x_of l.column; y = bottom }))) None)
