use Rattle.std.proofs.Common.{◌∙◌, ap, sym}
use Rattle.trace_props.specs.declared.event.Event.TheVariants.{Installed}
use Rattle.trace_props.specs.Following.{MayRise}
use Rattle.trace_rules.proofs.TestsOfOneView.{of-event}
use Rattle.trace_rules.proofs.TestsOfOneView.{rises-decides}
use Rattle.trace_rules.proofs.judge.rules.keeps_views.Goals as goal

-- the test decides
pub returns-in-Installed : goal.returns-in-Installed
returns-in-Installed c = of-event (MayRise c.args.past.now) c.args.event.now _ c.may_rise.result _ (c.in-Installed.is ∙ ap Installed (sym c.get.ensures)) c.may_rise.ensures (rises-decides c.args.past.now c.get.result.now)
