use Rattle.udp_runs.proofs.LinesAndEvents.{took-one, took-some, on-err}
use Rattle.udp_runs.proofs.process.append_events.Goals as goal

pub returns-in_err-append_event-clause-err : goal.returns-in_err-append_event-clause-err
returns-in_err-append_event-clause-err g c = on-err _ (took-some _ _ _ _ _ c.loop-event.invariant c.in_err-append_event.ensures.err)

pub loop-event-preserved : goal.loop-event-preserved
loop-event-preserved g c = took-one _ _ _ _ _ _ c.in-Some.event c.loop-event.invariant c.in-Some.ensures.first c.happened.ensures.others c.in_ok-append_event.ensures.text
