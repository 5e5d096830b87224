use Rattle.std.proofs.Common.{◌∙◌, sym}
use Rattle.trace_merge.specs.Facts.{shown_by}
use Rattle.trace_merge.proofs.KeepShown.{gone}
use Rattle.trace_merge.proofs.merging.strike.Goals as goal

pub returns-in-Some : goal.returns-in-Some
returns-in-Some c = λ f. gone c.args.awaited.now c.remove.new.self c.in-Some.fact f (shown_by c.args.event.now) (sym c.shown_by.ensures ∙ c.in-Some.is) (c.remove.ensures.updates.0 f)
