use Rattle.std.proofs.Common.{List, sym, subst}
use Rattle.trace_props.specs.declared.event.Event.{Event}
use Rattle.trace_props.specs.Verdicts.{IsVerdict}
use Rattle.trace_merge.specs.Merges.{lists_of, IsOrderedMerge}
use Rattle.commands.proofs.ProcessesWrite.{judged, unordered, unjudged}
use Rattle.commands.proofs.processes.join.Goals as goal

pub returns-in-Ok-check : goal.returns-in-Ok-check
returns-in-Ok-check g c =
    judged g.R.Receiver.meaning _ _ _ (lists_of c.args.traces.now) c.events.result.now c.in-Ok-check.verdict
    (subst (IsOrderedMerge (lists_of c.args.traces.now)) (sym c.events.ensures.value) c.in-Ok.ensures)
    (subst (λ (t : List Event). IsVerdict g.R.Receiver.meaning t c.in-Ok-check.verdict) (sym c.events.ensures.value) c.in-Ok-check.ensures.verdict)
    c.print_placed.ensures

pub returns-in-Ok : goal.returns-in-Ok
returns-in-Ok g c = unjudged g.R.Receiver.meaning _ _ _ (lists_of c.args.traces.now) c.end_in_memory.ensures

pub returns-in-Err-Unordered : goal.returns-in-Err-Unordered
returns-in-Err-Unordered g c = unordered g.R.Receiver.meaning _ _ _ (lists_of c.args.traces.now) c.in-Err-Unordered.process c.in-Err-Unordered.event
    (rw c.in-Err-Unordered.field-0-is at c.in-Err-Unordered.ensures) c.end_unordered.ensures

pub returns : goal.returns
returns g c = unjudged g.R.Receiver.meaning _ _ _ (lists_of c.args.traces.now) c.end_in_memory-in-Err-Memory.ensures
