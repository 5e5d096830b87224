-- The marks of what was refused: where it was, and the script's line.
use Rattle.std.specs.Prelude.{ℕ, ◌+◌, ◌-◌, List, ◌++◌, codes}
use Rattle.address.specs.declared.refusal.Refusal.{Refusal}
use Rattle.address.specs.declared.refusal.Refusal.TheVariants.{NotConnected, Blocked, Busy, TooLong, AlreadyConnected, Closed, Memory, Exhausted, BadName}
use Rattle.address.specs.Refusals.{number_of}
use Rattle.vsync_text.specs.Runs.{refusal_line}
use Rattle.trace_drawing.specs.declared.aside.AsideRow.{AsideRow}
use Rattle.trace_drawing.specs.Marks.{x_in, y_of}
use Rattle.trace_drawing.specs.Spelling.{number_behind}

-- why it was refused
abbrev pub reason_of : Refusal → List ℕ
reason_of NotConnected = codes "not connected"
reason_of Blocked = codes "blocked"
reason_of Busy = codes "busy"
reason_of TooLong = codes "too long"
reason_of AlreadyConnected = codes "already connected"
reason_of Closed = codes "closed"
reason_of Memory = codes "memory"
reason_of Exhausted = codes "exhausted"
reason_of BadName = codes "bad name"

-- where the mark of a refusal stands: in the middle of its column
abbrev pub refused_place : AsideRow → List ℕ
refused_place row = number_behind (codes "<text class='e' x='") (x_in row.column - 5) ++ number_behind (codes "' y='") (y_of row.level + 4) ++ codes "'>"

-- its title, the line that `world` prints of it, and a crossed ring
abbrev pub refused_title : ℕ → Refusal → List ℕ
refused_title line r = codes "<title>" ++ refusal_line line (number_of r) ++ codes "</title>&#8856; "

-- all that is drawn of the refusal of a line's event: the ring, and why it was refused
abbrev pub refused_group : AsideRow → ℕ → Refusal → List ℕ
refused_group row line r = refused_place row ++ refused_title line r ++ reason_of r ++ codes "</text>\n"
