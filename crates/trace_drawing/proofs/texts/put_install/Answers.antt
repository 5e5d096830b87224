use Rattle.std.proofs.Common.{◌∙◌, ◌+◌, ap, codes}
use Rattle.address.specs.Ids.{text_of_view_id}
use Rattle.trace_drawing.specs.Marks.{x_of, place_of}
use Rattle.trace_drawing.specs.Spelling.{start_behind}
use Rattle.trace_drawing.specs.Picture.{given_text, back_text}
use Rattle.vsync_text.proofs.TextsAppend.{appends-three, same-text}
use Rattle.trace_drawing.proofs.texts.put_install.Goals as goal

-- the view's id, whether a state is given, and how many messages are handed back
pub returns : goal.returns
returns c =
    let place = ap (λ x. start_behind (codes "<text class='i' x='") x (c.y_of.result + 4)) c.x_of.ensures ∙ ap (λ y. start_behind (codes "<text class='i' x='") (x_of c.args.column) (y + 4)) c.y_of.ensures in
    appends-three (appends-three (same-text place c.put_text_start.ensures) (same-text (ap text_of_view_id c.id.ensures) c.put_view_id.ensures) c.put.ensures)
    (same-text (ap (λ given. given_text given (place_of c.args.level c.args.column)) c.as_ref.ensures.value) c.put_given.ensures)
    (same-text (ap (λ back. back_text back c.args.level c.args.column) c.as_slice.ensures) c.put_back.ensures)
