use Rattle.node_finding.proofs.StepsMayBeDone.{steps-may}
use Rattle.node_finding.proofs.finding.Finder.step.Goals as goal

pub returns-in-Some-2-clause-may : goal.returns-in-Some-2-clause-may
returns-in-Some-2-clause-may c = rw (c.in-Some-2.is, ← c.moment-moment.ensures) (steps-may _ _ _ _ _ _ c.step_in_view.ensures)
