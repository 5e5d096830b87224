use Rattle.std.proofs.Common.{◌∙◌, ap, sym}
use Rattle.vsync_text.specs.UdpScript.{udp_script_of}
use Rattle.vsync_text.specs.Outcomes.IsAnswer.{ReaderFails}
use Rattle.udp_runs.proofs.ScriptCommandsEnd.{fault-text, unread-text}
use Rattle.udp_runs.proofs.script.lines_from.Goals as goal
use Rattle.vsync_text.proofs.LinesWritten.{appends_nothing}

pub returns-in-Err-Memory-clause-err : goal.returns-in-Err-Memory-clause-err
returns-in-Err-Memory-clause-err g c = unread-text _ _ _ _ c.end_in_memory.ensures

pub returns-in-Err-Failed-clause-err : goal.returns-in-Err-Failed-clause-err
returns-in-Err-Failed-clause-err g c = ReaderFails (appends_nothing _)

pub returns-in-Err-Fault-clause-err : goal.returns-in-Err-Fault-clause-err
returns-in-Err-Fault-clause-err g c =
    fault-text _ _ _ c.in-Ok.bytes.items c.in-Err-Fault.line c.in-Err-Fault.fault _ c.in-Ok.ensures
    (ap udp_script_of (sym c.as_slice.ensures.value) ∙ rw c.in-Err-Fault.field-0-is at c.in-Err-Fault.ensures) c.end_in_fault.ensures

pub returns-clause-err : goal.returns-clause-err
returns-clause-err g c = unread-text _ _ _ _ c.end_in_memory-in-Err-Memory-read_udp_script.ensures
