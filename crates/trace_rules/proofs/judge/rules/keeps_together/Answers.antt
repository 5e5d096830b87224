use Rattle.std.proofs.Common.{◌∙◌, ap, sym}
use Rattle.trace_props.specs.declared.event.Event.TheVariants.{Installed}
use Rattle.trace_props.specs.Agreeing.{MayKnow}
use Rattle.trace_rules.proofs.TestsOfOneView.{of-event}
use Rattle.trace_rules.proofs.TestsOfViewChanges.{knows-decides}
use Rattle.trace_rules.proofs.judge.rules.keeps_together.Goals as goal

-- the test decides
pub returns-in-Installed : goal.returns-in-Installed
returns-in-Installed c = of-event (MayKnow c.args.past.now) c.args.event.now _ c.may_know.result _ (c.in-Installed.is ∙ ap Installed (sym c.get.ensures)) c.may_know.ensures (knows-decides c.args.past.now c.get.result.now)
