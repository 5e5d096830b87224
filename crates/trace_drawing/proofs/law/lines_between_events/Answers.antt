use Rattle.trace_drawing.proofs.LawOfRows.{reached-earlier}
use Rattle.trace_drawing.proofs.law.lines_between_events.Goals as goal

pub returns : goal.returns
returns c = reached-earlier
