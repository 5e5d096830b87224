use Rattle.std.proofs.Common.{◌∙◌, sym}
use Rattle.trace_drawing.proofs.LawOfTexts.{escaped-plain}
use Rattle.vsync_text.proofs.TextsAppend.{same-text}
use Rattle.trace_drawing.proofs.labels.put_text.Goals as goal

-- no byte is to be escaped
pub returns-then-is_plain_text : goal.returns-then-is_plain_text
returns-then-is_plain_text c = same-text (sym (escaped-plain c.args.bytes.now (sym c.is_plain_text.ensures ∙ c.if-is_plain_text.true))) c.put.ensures
