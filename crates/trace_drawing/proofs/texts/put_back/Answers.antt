use Rattle.std.proofs.Common.{◌∙◌, ◌+◌, ◌++◌, sym, ap, codes}
use Rattle.trace_drawing.specs.Marks.{x_of}
use Rattle.trace_drawing.specs.Spelling.{start_behind}
use Rattle.trace_drawing.proofs.TextsDrawn.{back-drawn}
use Rattle.trace_drawing.proofs.texts.put_back.Goals as goal

-- the place, and how many
pub returns : goal.returns
returns c = record {
  whole = λ e. c.put_text_start.ensures.whole (c.put_over.ensures.whole e);
  text = λ e. back-drawn _ _ _ c.args.back.now c.args.level c.args.column (sym c.is_empty.ensures ∙ c.if-is_empty.false)
      (c.put_text_start.ensures.text (c.put_over.ensures.whole e) ∙ ap (λ x. c.args.out.now.items ++ start_behind (codes "<text class='t' x='") (x + 44) (c.y_of.result + 4)) c.x_of.ensures
      ∙ ap (λ y. c.args.out.now.items ++ start_behind (codes "<text class='t' x='") (x_of c.args.column + 44) (y + 4)) c.y_of.ensures) (c.put_over.ensures.text e);
}
