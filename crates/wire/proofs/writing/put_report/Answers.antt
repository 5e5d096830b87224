use Rattle.std.proofs.Common.{sym, ◌∙◌, append_assoc}
use Rattle.wire.proofs.InstallLaws.{none_fits, some_fits}
use Rattle.wire.proofs.writing.put_report.Goals as goal

pub returns-in-None-clause-fits : goal.returns-in-None-clause-fits
returns-in-None-clause-fits c = none_fits c.args.report.now (sym c.previous.ensures.value ∙ c.in-None.is) c.previous.ensures.report

pub returns-in-Some-clause-fits : goal.returns-in-Some-clause-fits
returns-in-Some-clause-fits c = some_fits c.in-Some.previous c.args.report.now (sym c.previous.ensures.value ∙ c.in-Some.is) c.put_filled.ensures.previous c.put_filled.ensures.held c.previous.ensures.report

pub returns-in-Some-clause-items : goal.returns-in-Some-clause-items
returns-in-Some-clause-items c = c.put_filled.ensures.items ∙ rw (c.put_u8-in-Some.ensures.items, append_assoc, sym c.previous.ensures.value ∙ c.in-Some.is)
