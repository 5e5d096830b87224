-- The picture of a trace: one group for each member's line, one for each event in order.
use Rattle.std.specs.Prelude.{ℕ, Bool, false, ◌+◌, ◌/◌, ◌%◌, cond, nat_eq, Option, None, Some, List, [], ◌∷◌, ◌++◌, length, codes, flat_map, option_map, option_to_list, unwrap_or}
use Rattle.std.specs.Fmt.{decimal}
use Rattle.address.specs.Ids.{Address, text_of_address, text_of_view_id}
use Rattle.trace_props.specs.declared.event.Event.{Event}
use Rattle.trace_props.specs.declared.event.Event.TheVariants.{Started, Sent, Delivered, Blocked, Installed, Left, Crashed}
use Rattle.trace_props.specs.declared.event.Install.{Install}
use Rattle.trace_props.specs.declared.event.Numbered.{Numbered}
use Rattle.trace_props.specs.declared.verdict.Verdict.{Verdict}
use Rattle.trace_props.specs.Observed.{member_of}
use Rattle.vsync_text.specs.TraceText.{line_of}
use Rattle.trace_drawing.specs.declared.marks.TheConstants.{BLOCK}
use Rattle.trace_drawing.specs.declared.picture.TheConstants.{COLOURS, STYLE}
use Rattle.trace_drawing.specs.declared.row.Row.{Row}
use Rattle.trace_drawing.specs.declared.row.Line.{Line}
use Rattle.trace_drawing.specs.declared.aside.Aside.{Aside}
use Rattle.trace_drawing.specs.declared.aside.AsideRow.{AsideRow}
use Rattle.trace_drawing.specs.declared.marks.Place.{Place}
use Rattle.trace_drawing.specs.Layout.{level_of, rows_of, member_lines, aside_rows}
use Rattle.trace_drawing.specs.Marks.{x_of, y_of, names_y, place_of, is_delivery, origin_row, marks_of, line_mark, last_stretch}
use Rattle.trace_drawing.specs.Labels.{label}
use Rattle.trace_drawing.specs.Asides.{asides_text}
use Rattle.trace_drawing.specs.Broken.{broken_text, room_for}
use Rattle.trace_drawing.specs.Spelling.{path, start_down, text_at, mark_text, number_behind, group_end}

-- TEXTS BESIDE AN EVENT'S OWN MARK

-- a text beside a mark
abbrev pub beside : List ℕ → ℕ → ℕ → List ℕ → List ℕ
beside class level column content = text_at class (x_of column + 11) (y_of level + 4) content

-- a mark where a state is given
abbrev pub given_text : Option (List ℕ) → Place → List ℕ
given_text None at = []
given_text (Some state) at = path (codes "g") at (codes "m-54-5h10l-5 9z")

-- how many messages are handed back, where there are any
abbrev pub back_text : List Numbered → ℕ → ℕ → List ℕ
back_text [] level column = []
back_text (m ∷ ms) level column = text_at (codes "t") (x_of column + 44) (y_of level + 4) (decimal (length (m ∷ ms)) ++ codes " back")

-- the view's id, a mark where a state is given, and how much is handed back
abbrev pub install_text : Install → ℕ → ℕ → List ℕ
install_text i level column =
    text_at (codes "i") (x_of column) (y_of level + 4) (text_of_view_id i.view.id) ++ given_text i.given (place_of level column) ++ back_text i.handed_back level column

-- the texts of an event: the payload of a message, the id of a view
abbrev pub texts_of : Event → ℕ → ℕ → List ℕ
texts_of (Started p) level column = beside (codes "t") level column (codes "started")
texts_of (Sent s) level column = beside (codes "b") level column (label s.message.payload)
texts_of (Delivered d) level column = beside (codes "t") level column (label d.message.payload)
texts_of (Blocked p) level column = []
texts_of (Installed i) level column = install_text i level column
texts_of (Left p) level column = beside (codes "t") level column (codes "left")
texts_of (Crashed p) level column = beside (codes "t") level column (codes "crashed")

-- whether a row lies in the same block as another
abbrev pub same_block : ℕ → Option ℕ → Bool
same_block level None = false
same_block level (Some before) = nat_eq (before / BLOCK) (level / BLOCK)

-- the name of a member above a column
abbrev pub name_above : ℕ → ℕ → Address → List ℕ
name_above level column p = text_at (codes "n") (x_of column) (names_y level) (text_of_address p)

-- the name of a member above its column, at its first event in a block of rows
abbrev pub name_text : Row → Address → List ℕ
name_text row p = cond (same_block row.level row.before) [] (name_above row.level row.column p)

-- the number of an event, from 1, in a column of its own
abbrev pub number_text : ℕ → ℕ → List ℕ
number_text number level = start_down (codes "<text class='r' x='40' y='") (y_of level + 4) ++ decimal (number + 1) ++ codes "</text>"

-- EVENTS

-- the colour of a column
abbrev pub colour_of : Row → ℕ
colour_of row = row.column % COLOURS

-- the colour of an event: its member's, or that of a delivered message's sender; the last one, where no send is known
abbrev pub colour : List Row → Row → Event → ℕ
colour rows row e = cond (is_delivery e) (unwrap_or (option_map colour_of (origin_row rows row)) COLOURS) (colour_of row)

-- how the group of an event begins: its colour, and its title, the trace's line
abbrev pub group_start : ℕ → Event → List ℕ
group_start colour e = number_behind (codes "<g class='c") colour ++ codes "'><title>" ++ line_of e ++ codes "</title>"

-- what stands before an event's marks: its title, the name above its column, and its number
abbrev pub event_start : List Row → ℕ → Row → Event → List ℕ
event_start rows number row e = group_start (colour rows row e) e ++ name_text row (member_of e) ++ number_text number row.level

-- all that is drawn of an event
abbrev pub event_group : List Row → ℕ → Row → Event → List ℕ
event_group rows number row e = event_start rows number row e ++ flat_map mark_text (marks_of rows row e) ++ texts_of e row.level row.column ++ group_end

-- the groups of events and their rows, in order
abbrev pub event_groups : List Row → ℕ → List Row → List Event → List ℕ
event_groups all number [] events = []
event_groups all number (row ∷ rows) [] = []
event_groups all number (row ∷ rows) (e ∷ events) = event_group all number row e ++ event_groups all (number + 1) rows events

-- MEMBERS' LINES

-- how the group of a member's line begins: its title, the member
abbrev pub line_start : Address → List ℕ
line_start p = codes "<g><title>" ++ text_of_address p ++ codes "</title>"

-- a member's line, and the stretch in which it is blocked at the end
abbrev pub line_group : ℕ → Line → List ℕ
line_group bottom l = line_start l.member ++ (mark_text (line_mark bottom l) ++ flat_map mark_text (option_to_list (last_stretch bottom l))) ++ group_end

-- THE WHOLE

-- an SVG so wide and so high
abbrev pub svg_start : ℕ → ℕ → List ℕ
svg_start width height = number_behind (codes "<svg xmlns='http://www.w3.org/2000/svg' width='") width ++ number_behind (codes "' height='") height ++ codes "'>"

-- the ground
abbrev pub paper : List ℕ
paper = codes "<rect class='w' width='100%' height='100%'/>" ++ 10 ∷ []

-- how the picture begins: its size, its style and its ground
abbrev pub head_text : ℕ → ℕ → List ℕ
head_text width height = svg_start width height ++ STYLE.now ++ paper

abbrev pub svg_end : List ℕ
svg_end = codes "</svg>" ++ 10 ∷ []

-- the picture of rows and lines, of their events, of the asides between them with their packets, and of a broken rule
abbrev pub picture_with : List Row → List Line → List AsideRow → List Event → List (List ℕ) → Verdict → List ℕ
picture_with rows lines beside events packets verdict =
    head_text (x_of (length lines) + room_for verdict) (y_of (length rows + length beside) + 20) ++ flat_map (line_group (y_of (length rows + length beside))) lines
    ++ event_groups rows 0 rows events ++ asides_text beside packets ++ broken_text rows events verdict ++ svg_end

-- the picture of a trace, with the asides between its events and the packets of which they speak, and the mark of a broken rule where the verdict has one
abbrev pub picture_of : List Event → List Aside → List (List ℕ) → Verdict → List ℕ
picture_of t asides packets verdict =
    picture_with (rows_of (level_of asides) t) (member_lines (level_of asides) t) (aside_rows (rows_of (level_of asides) t) t asides) t packets verdict
