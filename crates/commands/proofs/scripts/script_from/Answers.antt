use Rattle.std.proofs.Common.{◌∙◌, ap, sym}
use Rattle.vsync_text.specs.Script.{script_by}
use Rattle.vsync_text.specs.Outcomes.IsAnswer.{ReaderFails}
use Rattle.vsync_text.proofs.TextsFollow.{unread-text, fault-text}
use Rattle.commands.proofs.scripts.script_from.Goals as goal
use Rattle.vsync_text.proofs.LinesWritten.{appends_nothing}

pub returns-in-Err-Memory : goal.returns-in-Err-Memory
returns-in-Err-Memory g c = unread-text g.P.Payloads.payload_of _ _ _ _ c.end_in_memory.ensures

pub returns-in-Err-Failed : goal.returns-in-Err-Failed
returns-in-Err-Failed g c = ReaderFails (appends_nothing _)

pub returns-in-Ok-read_script_by : goal.returns-in-Ok-read_script_by
returns-in-Ok-read_script_by g c = (c.in-Ok.bytes.items, c.in-Ok.ensures, ap (script_by g.P.Payloads.payload_of) (sym c.as_slice.ensures.value) ∙ c.in-Ok-read_script_by.ensures, appends_nothing _)

pub returns-in-Err-Fault : goal.returns-in-Err-Fault
returns-in-Err-Fault g c =
    fault-text g.P.Payloads.payload_of _ _ _ c.in-Ok.bytes.items c.in-Err-Fault.line c.in-Err-Fault.fault _ c.in-Ok.ensures
    (ap (script_by g.P.Payloads.payload_of) (sym c.as_slice.ensures.value) ∙ rw c.in-Err-Fault.field-0-is at c.in-Err-Fault.ensures) c.end_in_fault.ensures

pub returns : goal.returns
returns g c = unread-text g.P.Payloads.payload_of _ _ _ _ c.end_in_memory-in-Err-Memory-read_script_by.ensures
