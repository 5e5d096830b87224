use Rattle.std.proofs.Common.{ap}
use Rattle.trace_drawing.specs.declared.marks.Mark.TheVariants as marks
use Rattle.trace_drawing.specs.Spelling.{mark_text}
use Rattle.vsync_text.proofs.TextsAppend.{appends-two, appends-three, appends-four, same-text}
use Rattle.trace_drawing.proofs.broken.put_broken_group.Goals as goal

-- the title, the mark, the words and the end
pub returns : goal.returns
returns c = appends-four (appends-three c.put.ensures (appends-two (same-text c.words_of.ensures c.put-2.ensures) (appends-two c.put-3.ensures c.append_event.ensures)) c.put-4.ensures)
    (same-text (ap (λ p. mark_text (marks.Broken p)) c.place_of.ensures) c.put_mark.ensures) c.put_broken_words.ensures c.put-5.ensures
