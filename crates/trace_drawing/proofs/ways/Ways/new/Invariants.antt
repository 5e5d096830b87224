use Rattle.std.proofs.Common.{take}
use Rattle.trace_drawing.specs.Packets.{row_in, KnowsWays}
use Rattle.trace_drawing.proofs.ways.Ways.new.Given as goal

-- so far what is kept is of the first rows
abbrev pub invariant-loop-index : goal.invariant-loop-index
invariant-loop-index l = KnowsWays (row_in l.sources) (row_in l.ends) (take l.index l.rows)
