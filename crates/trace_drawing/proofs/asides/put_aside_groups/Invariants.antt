use Rattle.std.proofs.Common.{take}
use Rattle.std.specs.Prelude.{flat_map}
use Rattle.vsync_text.specs.Written.{Appends}
use Rattle.trace_drawing.specs.Packets.{row_in, KnowsWays}
use Rattle.trace_drawing.specs.Asides.{aside_group}
use Rattle.trace_drawing.proofs.asides.put_aside_groups.Given as goal

-- so far what is drawn is of the first asides
abbrev pub invariant-loop-row : goal.invariant-loop-row
invariant-loop-row l = KnowsWays (row_in l.ways.sources) (row_in l.ways.ends) l.rows → Appends (flat_map (aside_group l.rows l.packets) (take l.row-index l.rows)) l.initial.out l.out
