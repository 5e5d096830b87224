use Rattle.std.proofs.Common.{take, refl, sym, subst, List, arith}
use Rattle.std.proofs.lemmas.List.{take_all}
use Rattle.trace_drawing.specs.declared.aside.AsideRow.{AsideRow}
use Rattle.trace_drawing.specs.Packets.{row_in, KnowsWays}
use Rattle.trace_drawing.proofs.RowsAndLines.{next-take-at, length-front}
use Rattle.trace_drawing.proofs.ways.Ways.new.Goals as goal

-- one row more
pub loop-index-preserved : goal.loop-index-preserved
loop-index-preserved c =
    subst (λ (rs : List AsideRow). KnowsWays (row_in c.note_row.new.sources) (row_in c.note_row.new.ends) rs)
    (sym (next-take-at c.args.rows.now c.loop-index.index _ _ refl c.loop-index-test.true))
    (c.in_ok-note_row.ensures (take c.loop-index.index c.args.rows.now) (length-front c.args.rows.now c.loop-index.index c.loop-index-test.true) c.loop-index.invariant)

-- all rows
pub returns : goal.returns
returns c =
    subst (λ (rs : List AsideRow). KnowsWays (row_in c.loop-index.sources) (row_in c.loop-index.ends) rs) (take_all c.loop-index.index c.args.rows.now (omega (arith, c.loop-index-test.false))) c.loop-index.invariant
