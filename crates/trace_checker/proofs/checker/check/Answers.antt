use Rattle.std.proofs.Common.{rules, List, subst}
use Rattle.trace_props.specs.declared.event.Event.{Event}
use Rattle.trace_props.specs.Verdicts.{IsVerdict}
use Rattle.trace_props.proofs.KeepEightRules.{verdict-exact}
use Rattle.trace_checker.proofs.checker.check.Goals as goal

-- a verdict that all holds, and only that, is of a virtually synchronous trace
pub returns-clause-exact : goal.returns-clause-exact
returns-clause-exact g c =
    verdict-exact g.R.Receiver.meaning c.args.trace.now.events c.in_ok-verdict.verdict
    (subst (λ (t : List Event). IsVerdict g.R.Receiver.meaning t c.in_ok-verdict.verdict) c.events.ensures.value c.in_ok-verdict.ensures)

-- the verdict is of the events of the trace
pub returns-clause-verdict : goal.returns-clause-verdict
returns-clause-verdict g c = search rules
