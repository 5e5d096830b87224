use Rattle.std.proofs.Common.{refl}
use Rattle.trace_drawing.specs.Asides.{aside_group}
use Rattle.vsync_text.proofs.TextsAppend.{appends-at}
use Rattle.trace_drawing.proofs.asides.put_aside_groups.Goals as goal

-- one aside more
pub loop-row-preserved : goal.loop-row-preserved
loop-row-preserved c = λ knows. appends-at (aside_group c.args.rows.now c.args.packets.now) c.args.rows.now c.loop-row.row-index _ _ c.args.out.now c.loop-row.out c.put_aside_group.new.out
    refl c.loop-row-test.true (c.loop-row.invariant knows) (c.put_aside_group.ensures knows)
