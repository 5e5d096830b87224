use Rattle.vsync_text.proofs.TextsFollow.{lines-ended, lines-cut, lines-failed, of-error, of-success}
use Rattle.vsync_text.proofs.ends.end_with_lines.Goals as goal

pub returns-then-is_ok : goal.returns-then-is_ok
returns-then-is_ok g c = λ lines all some.
    lines-ended lines _ _ _ _ (of-success c.args.appended _ all c.if-is_ok.ensures.value) c.end_with.ensures

pub returns-in-Ok : goal.returns-in-Ok
returns-in-Ok g c = λ lines all some.
    lines-cut lines _ _ _ _ _ _ (of-error c.args.appended _ some c.if-is_ok.ensures.value) c.in-Ok.ensures.ok c.end_in_memory.ensures

pub returns-in-Err : goal.returns-in-Err
returns-in-Err g c = λ lines all some.
    lines-failed lines _ _ _ _ (of-error c.args.appended _ some c.if-is_ok.ensures.value) c.in-Err.ensures.err
