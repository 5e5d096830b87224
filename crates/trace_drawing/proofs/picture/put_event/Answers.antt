use Rattle.std.proofs.Common.{◌∙◌, ap, sym, codes, append_assoc}
use Rattle.std.specs.Fmt.{decimal}
use Rattle.trace_drawing.specs.Picture.{group_start, name_text}
use Rattle.vsync_text.proofs.TextsAppend.{appends-two, appends-three, appends-four, same-text}
use Rattle.trace_drawing.proofs.picture.put_event.Goals as goal

-- the title, the name and the number, the marks, the texts and the end
pub returns : goal.returns
returns c =
    let title = appends-three (same-text (sym (append_assoc (codes "<g class='c") (decimal c.from.result) (codes "'><title>"))) (appends-two c.put.ensures c.put_over.ensures)) c.append_event.ensures c.put-2.ensures in
    appends-four (appends-three (same-text (ap (λ k. group_start k c.args.event.now) (c.from.ensures ∙ c.colour.ensures)) title)
    (same-text (ap (λ p. name_text c.args.row.now p) c.member.ensures) c.put_name_above.ensures) c.put_row_number.ensures)
    c.put_marks.ensures c.put_texts.ensures c.put-3.ensures
