use Rattle.std.proofs.Common.{◌≡◌, ◌≤◌, ◌+◌, ◌-◌, ◌++◌, length, take, drop, vec_len, vec_capacity}
use Rattle.std.specs.Prelude.{nat_eq}
use Rattle.std.specs.HashMap.{get}
use Rattle.trace_drawing.specs.Layout.{asides_from, aside_rows}
use Rattle.trace_drawing.specs.Known.{KnowsNodes}
use Rattle.trace_drawing.proofs.levels.aside_rows.Given as goal

-- those so far and the rest are the whole, and what is kept is of the events before the next one; there is room for the others
abbrev pub invariant-loop-count : goal.invariant-loop-count
invariant-loop-count l =
    (l.out.items ++ asides_from l.rows l.events l.count l.front (drop l.count l.asides) ≡ aside_rows l.rows l.events l.asides)
    × KnowsNodes (get nat_eq l.nodes) (take l.front l.events)
    × vec_len l.out + (length l.asides - l.count) ≤ vec_capacity l.out
