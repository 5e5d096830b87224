use Rattle.std.proofs.Common.{◌≡◌, ◌≤◌, ◌+◌, ◌-◌, length, take, vec_len, vec_capacity}
use Rattle.std.specs.HashMap.{get}
use Rattle.address.specs.Ids.{same_address, same_view_id}
use Rattle.trace_drawing.specs.Layout.{same_message, above, level_of, rows_of}
use Rattle.trace_drawing.specs.Known.{Knows}
use Rattle.trace_drawing.proofs.layout.rows_and_lines.Given as goal

-- so far the rows are those of the events, what is kept is of them, and no more asides are passed than stand above the next event; there is room for the other rows
abbrev pub invariant-loop-index : goal.invariant-loop-index
invariant-loop-index l =
    (l.rows.items ≡ rows_of (level_of l.asides) (take l.index l.events))
    × Knows (level_of l.asides) l.known.members.items (get same_address l.known.lifelines) (get same_message l.known.sends) (get same_view_id l.known.installs) (take l.index l.events)
    × l.passed ≤ above l.asides l.index
    × vec_len l.rows + (length l.events - l.index) ≤ vec_capacity l.rows
