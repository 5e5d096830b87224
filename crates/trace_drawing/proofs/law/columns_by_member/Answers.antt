use Rattle.trace_drawing.proofs.LawOfRows.{column-same}
use Rattle.trace_drawing.proofs.law.columns_by_member.Goals as goal

pub returns-clause-same : goal.returns-clause-same
returns-clause-same c = column-same
