use Rattle.std.proofs.Common.{◌≡◌, List, true, sym, ap, ◌∙◌, subst}
use Rattle.address.specs.Ids.{Address}
use Rattle.wire_values.specs.Lists.{is_report}
use Rattle.wire_values.specs.Values.{Report}
use Rattle.flush.specs.Flushes.{FlushModel, IsFlush, is_awaited}
use Rattle.flush.proofs.ReportsKept.{flush-kept}
use Rattle.flush.proofs.flushing.Flush.report.Goals as goal

pub invariant_of-self : goal.invariant_of-self
invariant_of-self c =
    let f : FlushModel = record { proposal = c.self.inside.proposal; members = c.self.inside.members; reports = c.self.inside.reports.entries } in
    let awaited : is_awaited c.args.from f ≡ true = ap (is_awaited c.args.from) c.self.view_is ∙ sym c.is_awaited.ensures ∙ c.if-is_awaited.true in
    let sound : is_report c.in_ok-kept.kept ≡ true = ap is_report c.in_ok-kept.ensures.copy ∙ c.in_ok-kept.ensures.report in
    subst (λ (reports : List (Address × Report)). IsFlush (record f { reports = reports })) (sym c.in_ok-keep.ensures.ok) (flush-kept f c.args.from c.in_ok-kept.kept c.self.invariant awaited sound)
