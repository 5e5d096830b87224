use Rattle.std.proofs.Common.{ap}
use Rattle.std.specs.Prelude.{flat_map, option_to_list}
use Rattle.trace_drawing.specs.Spelling.{mark_text}
use Rattle.vsync_text.proofs.TextsAppend.{appends-two, appends-three, same-text}
use Rattle.trace_drawing.proofs.picture.put_line.Goals as goal

-- the title, the marks and the end
pub returns : goal.returns
returns c = appends-three (appends-three c.put.ensures c.put_name.ensures c.put-2.ensures)
    (appends-two (same-text (ap mark_text c.line_mark.ensures) c.put_mark.ensures) (same-text (ap (λ o. flat_map mark_text (option_to_list o)) c.last_stretch.ensures) c.put_some_mark.ensures)) c.put-3.ensures
