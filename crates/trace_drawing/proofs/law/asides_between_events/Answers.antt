use Rattle.trace_drawing.proofs.LawOfAsides.{aside-count, aside-each, aside-below, aside-above}
use Rattle.trace_drawing.proofs.law.asides_between_events.Goals as goal

pub returns-clause-count : goal.returns-clause-count
returns-clause-count c = aside-count

pub returns-clause-each : goal.returns-clause-each
returns-clause-each c = aside-each

pub returns-clause-below : goal.returns-clause-below
returns-clause-below c = aside-below

pub returns-clause-above : goal.returns-clause-above
returns-clause-above c = aside-above
