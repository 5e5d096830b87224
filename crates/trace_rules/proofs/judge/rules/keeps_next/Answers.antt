use Rattle.std.proofs.Common.{◌∙◌, ap, sym}
use Rattle.trace_props.specs.declared.event.Event.TheVariants.{Installed}
use Rattle.trace_props.specs.Agreeing.{MayMeet}
use Rattle.trace_rules.proofs.TestsOfOneView.{of-event}
use Rattle.trace_rules.proofs.TestsOfViewChanges.{meets-decides}
use Rattle.trace_rules.proofs.judge.rules.keeps_next.Goals as goal

-- the test decides
pub returns-in-Installed : goal.returns-in-Installed
returns-in-Installed c = of-event (MayMeet c.args.past.now) c.args.event.now _ c.may_meet.result _ (c.in-Installed.is ∙ ap Installed (sym c.get.ensures)) c.may_meet.ensures (meets-decides c.args.past.now c.get.result.now)
