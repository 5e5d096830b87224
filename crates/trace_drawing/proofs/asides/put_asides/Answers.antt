use Rattle.std.proofs.Common.{◌∙◌, sym}
use Rattle.vsync_text.proofs.TextsAppend.{appends-two, same-text}
use Rattle.trace_drawing.proofs.TextsDrawn.{asides-all}
use Rattle.trace_drawing.proofs.asides.put_asides.Goals as goal

-- the style and the groups
pub returns-in-Ok : goal.returns-in-Ok
returns-in-Ok c = same-text (asides-all c.args.rows.now c.args.packets.now (sym c.is_empty.ensures ∙ c.if-is_empty.false)) (appends-two c.put.ensures (c.put_aside_groups.ensures c.in-Ok.ensures))
