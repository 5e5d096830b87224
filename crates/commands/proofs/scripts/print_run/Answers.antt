use Rattle.std.proofs.Common.{◌∙◌}
use Rattle.vsync_text.proofs.TextsFollow.{prints-failed, prints-some, prints-part, prints-all}
use Rattle.commands.proofs.RunsPrint.{printed-as}
use Rattle.commands.proofs.scripts.print_run.Goals as goal

pub returns-in-Failed : goal.returns-in-Failed
returns-in-Failed g c =
    let t = c.in-Failed.ensures in
    printed-as _ c.args.ran _ _ _ _ _ _ _ c.replies.ensures (c.events-events.ensures.value ∙ c.trace.ensures) (prints-failed _ c.args.ran _ _ t.0 t.1)

pub returns-in-Memory : goal.returns-in-Memory
returns-in-Memory g c =
    let t = c.in-Memory.ensures in
    printed-as _ c.args.ran _ _ _ _ _ _ _ c.replies.ensures (c.events-events.ensures.value ∙ c.trace.ensures) (prints-some _ c.args.ran _ _ _ _ t.0 t.1 c.end_in_memory.ensures)

pub returns-then-ran : goal.returns-then-ran
returns-then-ran g c =
    printed-as _ c.args.ran _ _ _ _ _ _ _ c.replies.ensures (c.events-events.ensures.value ∙ c.trace.ensures) (prints-all _ c.args.ran _ _ _ _ c.if-ran.true c.in-All.ensures c.end_with.ensures)

pub returns-else-ran : goal.returns-else-ran
returns-else-ran g c =
    printed-as _ c.args.ran _ _ _ _ _ _ _ c.replies.ensures (c.events-events.ensures.value ∙ c.trace.ensures) (prints-part _ c.args.ran _ _ _ _ c.in-All.ensures c.end_in_memory-else-ran.ensures)
