-- The mark of a broken rule: where the rule breaks, and which it is, in words.
use Rattle.std.specs.Prelude.{ℕ, ◌+◌, ◌-◌, cond, nat_eq, Option, None, Some, List, [], ◌∷◌, ◌++◌, codes, slice_get}
use Rattle.trace_props.specs.declared.event.Event.{Event}
use Rattle.trace_props.specs.declared.verdict.Rule.{Rule}
use Rattle.trace_props.specs.declared.verdict.Rule.TheVariants.{WellPlaced, RisingViews, SoundMessages, OneOrder, SameNext, Together, HandedBack, StateOfEntry}
use Rattle.trace_props.specs.declared.verdict.Verdict.{Verdict}
use Rattle.trace_props.specs.declared.verdict.Verdict.TheVariants.{Holds, Breaks}
use Rattle.vsync_text.specs.TraceText.{line_of}
use Rattle.trace_drawing.specs.declared.broken.TheConstants.{BROKEN_STYLE, WORDS}
use Rattle.trace_drawing.specs.declared.row.Row.{Row}
use Rattle.trace_drawing.specs.declared.marks.Mark.TheVariants as marks
use Rattle.trace_drawing.specs.Marks.{x_of, y_of, place_of}
use Rattle.trace_drawing.specs.Spelling.{text_at, mark_text, group_end}

-- what is wrong where a rule breaks
abbrev pub words_of : Rule → List ℕ
words_of WellPlaced = codes "happens out of place"
words_of RisingViews = codes "not a view that it may install"
words_of SoundMessages = codes "not its sender's next message"
words_of OneOrder = codes "delivered in another order"
words_of SameNext = codes "other messages delivered before"
words_of Together = codes "others came together with it"
words_of HandedBack = codes "other messages to be handed back"
words_of StateOfEntry = codes "enters with another state"

-- how the group of a broken rule begins: its title, the words and the trace's line
abbrev pub broken_start : Rule → Event → List ℕ
broken_start rule e = codes "<g><title>" ++ (words_of rule ++ 10 ∷ line_of e) ++ codes "</title>"

-- the words beside the mark of a broken rule
abbrev pub broken_words : Rule → ℕ → ℕ → List ℕ
broken_words rule level column = text_at (codes "q") (x_of column + 112) (y_of level + 4) (words_of rule)

-- all that is drawn of a rule that an event breaks: a mark in the event's row and column, and the words
abbrev pub broken_group : Rule → Row → Event → List ℕ
broken_group rule row e = broken_start rule e ++ mark_text (marks.Broken (place_of row.level row.column)) ++ broken_words rule row.level row.column ++ group_end

-- what is drawn of a rule that breaks in a row, where there is one
abbrev pub broken_in : Rule → Option Row → Option Event → List ℕ
broken_in rule None e = []
broken_in rule (Some row) None = []
broken_in rule (Some row) (Some e) = BROKEN_STYLE.now ++ broken_group rule row e

-- what is drawn of a verdict: where a rule breaks, it is marked; places count the events from 1
abbrev pub broken_text : List Row → List Event → Verdict → List ℕ
broken_text rows events Holds = []
broken_text rows events (Breaks rule place) = cond (nat_eq place 0) [] (broken_in rule (slice_get rows (place - 1)) (slice_get events (place - 1)))

-- how much wider a picture is for the words
abbrev pub room_for : Verdict → ℕ
room_for Holds = 0
room_for (Breaks rule place) = WORDS
