use Rattle.vsync_text.proofs.WholeLines.{whole_line}
use Rattle.vsync_text.proofs.field.whole_line_in_front.Goals as goal

pub returns-in-Some-clause-lines : goal.returns-in-Some-clause-lines
returns-in-Some-clause-lines c = whole_line _ _ _ _ _ _ c.length_until.ensures.value c.split_at.ensures.front c.split_at.ensures.back c.in-Some.ensures.cases.0
