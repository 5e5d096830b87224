use Rattle.std.proofs.Common.{◌∙◌}
use Rattle.flush.proofs.ReportsKept.{comes-last}
use Rattle.flush.proofs.flushing.keep.Goals as goal

pub returns-clause-ok : goal.returns-clause-ok
returns-clause-ok c = c.in_ok-insert.ensures.entries ∙ comes-last c.args.from c.args.kept c.args.reports.now c.requires
