use Rattle.std.proofs.Common.{◌≡◌, [], Ok, sym, ap, ◌∙◌}
use Rattle.wire_values.specs.Reading.{list_at, listed, is_whole}
use Rattle.wire_values.specs.Fields.{placed_at}
use Rattle.wire_values.specs.Lists.{is_report}
use Rattle.flush.proofs.ReportsKept.{kept-held}
use Rattle.flush.proofs.owned_report.OwnedReport.copy_of.Goals as goal

pub invariant_of-result : goal.invariant_of-result
invariant_of-result c =
    let read : list_at placed_at c.len.result c.in_ok-from_slice.field-0.items ≡ Ok (c.held-held.result, []) =
    kept-held _ _ _ c.text.ensures.fits (sym c.len.ensures.count) (c.in_ok-from_slice.ensures.items ∙ c.text.ensures.text) in
    let held : listed (list_at placed_at c.len.result c.in_ok-from_slice.field-0.items) ≡ c.args.report.now.held = ap listed read ∙ c.held-held.ensures in
    let same : record { previous = c.previous-previous.result; stable = c.stable.result; delivered = c.delivered.result; held = listed (list_at placed_at c.len.result c.in_ok-from_slice.field-0.items) } ≡ c.args.report.now =
    λ j. record { previous = c.previous-previous.ensures.value j; stable = c.stable.ensures j; delivered = c.delivered.ensures j; held = held j } in
    (ap is_whole read, ap is_report same ∙ c.previous-previous.ensures.report)

pub returns-clause-copy : goal.returns-clause-copy
returns-clause-copy c =
    let read : list_at placed_at c.len.result c.in_ok-from_slice.field-0.items ≡ Ok (c.held-held.result, []) =
    kept-held _ _ _ c.text.ensures.fits (sym c.len.ensures.count) (c.in_ok-from_slice.ensures.items ∙ c.text.ensures.text) in
    let held : listed (list_at placed_at c.len.result c.in_ok-from_slice.field-0.items) ≡ c.args.report.now.held = ap listed read ∙ c.held-held.ensures in
    λ j. record { previous = c.previous-previous.ensures.value j; stable = c.stable.ensures j; delivered = c.delivered.ensures j; held = held j }
