use Rattle.vsync_text.proofs.TextsAppend.{appends-three}
use Rattle.trace_drawing.proofs.picture.put_head.Goals as goal

-- the size, the style and the ground
pub returns : goal.returns
returns c = appends-three (appends-three c.put_number.ensures c.put_number-2.ensures c.put.ensures) c.put-2.ensures c.put-3.ensures
