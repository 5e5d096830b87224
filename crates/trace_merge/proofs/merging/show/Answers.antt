use Rattle.std.proofs.Common.{◌∙◌, sym}
use Rattle.trace_merge.specs.Facts.{shown_by}
use Rattle.trace_merge.proofs.KeepShown.{kept}
use Rattle.trace_merge.proofs.merging.show.Goals as goal

pub returns-in_ok-insert : goal.returns-in_ok-insert
returns-in_ok-insert c = λ f. kept c.args.facts.now c.insert.new.self c.in-Some.fact f (shown_by c.args.event.now) (sym c.shown_by.ensures ∙ c.in-Some.is) (c.in_ok-insert.ensures.updates.0 f)
