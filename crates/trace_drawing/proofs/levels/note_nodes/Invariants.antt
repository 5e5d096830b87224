use Rattle.std.proofs.Common.{take}
use Rattle.std.specs.Prelude.{nat_eq}
use Rattle.std.specs.HashMap.{get}
use Rattle.trace_drawing.specs.Known.{KnowsNodes}
use Rattle.trace_drawing.proofs.levels.note_nodes.Given as goal

-- what is kept is of the events so far
abbrev pub invariant-loop-number : goal.invariant-loop-number
invariant-loop-number l = KnowsNodes (get nat_eq l.initial.nodes) (take l.from l.events) → KnowsNodes (get nat_eq l.nodes) (take l.number l.events)
