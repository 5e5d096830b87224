use Rattle.std.proofs.Common.{List, sym, subst}
use Rattle.trace_props.specs.Recorded.{Recorded}
use Rattle.trace_merge.specs.Merges.{lists_of}
use Rattle.commands.specs.Processes.{texts_of, AreTracesOf}
use Rattle.commands.proofs.ProcessesWrite.{reads, faulty, unread}
use Rattle.commands.proofs.processes.run_check_processes.Goals as goal

pub returns-in-Ok : goal.returns-in-Ok
returns-in-Ok g c =
    reads g.R.Receiver.meaning _ _ _ (texts_of c.args.texts.now) (lists_of c.as_slice.result.now)
    (subst (λ (l : List Recorded). AreTracesOf (texts_of c.args.texts.now) (lists_of l)) (sym c.as_slice.ensures.value) c.in-Ok.ensures)
    c.join.ensures

pub returns-in-Err-Fault : goal.returns-in-Err-Fault
returns-in-Err-Fault g c = faulty g.R.Receiver.meaning _ _ _ (texts_of c.args.texts.now) c.in-Err-Fault.text c.in-Err-Fault.line c.in-Err-Fault.fault (rw c.in-Err-Fault.field-0-is at c.in-Err-Fault.ensures) c.end_faulty.ensures

pub returns-in-Err-Memory : goal.returns-in-Err-Memory
returns-in-Err-Memory g c = unread g.R.Receiver.meaning _ _ _ (texts_of c.args.texts.now) c.end_in_memory.ensures
