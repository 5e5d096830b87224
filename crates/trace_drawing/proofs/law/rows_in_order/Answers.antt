use Rattle.trace_drawing.proofs.TextsDrawn.{rows-length}
use Rattle.trace_drawing.proofs.LawOfRows.{row-each, level-each, level-order}
use Rattle.trace_drawing.proofs.law.rows_in_order.Goals as goal

pub returns-clause-count : goal.returns-clause-count
returns-clause-count c = rows-length

pub returns-clause-each : goal.returns-clause-each
returns-clause-each c = row-each

pub returns-clause-level : goal.returns-clause-level
returns-clause-level c = level-each

pub returns-clause-order : goal.returns-clause-order
returns-clause-order c = level-order
