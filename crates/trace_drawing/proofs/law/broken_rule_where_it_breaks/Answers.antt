use Rattle.trace_drawing.proofs.LawOfRows.{broken-marked}
use Rattle.trace_drawing.proofs.law.broken_rule_where_it_breaks.Goals as goal

pub returns : goal.returns
returns c = broken-marked
