use Rattle.std.proofs.Common.{rules, arith, subst}
use Rattle.flush.specs.Flushes.{FlushModel, IsFlush, group}
use Rattle.flush.specs.Cuts.{IsCut}
use Rattle.flush.proofs.CutItems.{is-cut}
use Rattle.std.proofs.lemmas.Grind.{elements}
use Rattle.flush.proofs.flushing.Flush.cut.Goals as goal

pub returns-in_err-push-clause-base : goal.returns-in_err-push-clause-base
returns-in_err-push-clause-base c = search rules

pub returns-clause-base : goal.returns-clause-base
returns-clause-base c = search rules

pub returns-clause-err_only : goal.returns-clause-err_only
returns-clause-err_only c = search rules

pub loop-entry-preserved : goal.loop-entry-preserved
loop-entry-preserved c = grind (arith, elements)

pub returns-in_err-push-clause-err_only : goal.returns-in_err-push-clause-err_only
returns-in_err-push-clause-err_only c = grind (arith, elements)

pub returns-clause-items : goal.returns-clause-items
returns-clause-items c =
    let cut : IsCut (group c.args.previous.now c.args.self.now.reports) c.greatest_stable-base.result c.loop-entry.entries.items = search rules in
    is-cut c.args.self.now (subst (λ (f : FlushModel). IsFlush f) c.self.view_is c.self.invariant) c.args.previous.now c.greatest_stable-base.result c.loop-entry.entries.items cut
