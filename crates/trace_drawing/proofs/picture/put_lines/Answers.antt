use Rattle.trace_drawing.specs.Picture.{line_group}
use Rattle.vsync_text.proofs.TextsAppend.{appends-next}
use Rattle.trace_drawing.proofs.picture.put_lines.Goals as goal

-- one line more
pub loop-line-preserved : goal.loop-line-preserved
loop-line-preserved c = appends-next (line_group c.args.bottom) c.args.lines.now c.loop-line.line-index c.line-item.result c.args.out.now c.loop-line.out c.put_line.new.out
    c.line-item.is c.loop-line-test.true c.loop-line.invariant c.put_line.ensures
