use Rattle.vsync_text.specs.Outcomes.IsAnswer.{ReaderFails}
use Rattle.commands.proofs.ChecksEnd.{checked-text, faulty-text, unread-trace}
use Rattle.commands.proofs.checks.run_check.Goals as goal
use Rattle.vsync_text.proofs.LinesWritten.{appends_nothing}

pub returns-in-Ok : goal.returns-in-Ok
returns-in-Ok g c = checked-text g.R.Receiver.meaning _ _ _ _ _ c.in-Ok.ensures c.judge.ensures

pub returns-in-Err-Memory-read_all : goal.returns-in-Err-Memory-read_all
returns-in-Err-Memory-read_all g c = unread-trace g.R.Receiver.meaning _ _ _ _ c.end_in_memory.ensures

pub returns-in-Err-Failed-read_all : goal.returns-in-Err-Failed-read_all
returns-in-Err-Failed-read_all g c = ReaderFails (appends_nothing _)

pub returns-in-Ok-read_all : goal.returns-in-Ok-read_all
returns-in-Ok-read_all g c =
    faulty-text g.R.Receiver.meaning _ _ _ c.in-Err-Fault.line c.in-Err-Fault.fault _ (rw c.in-Err-Fault.field-0-is at c.in-Err-Fault.ensures) c.end_in_fault.ensures

pub returns-in-Err-Memory : goal.returns-in-Err-Memory
returns-in-Err-Memory g c = unread-trace g.R.Receiver.meaning _ _ _ _ c.end_in_memory-in-Err-Memory.ensures

pub returns-in-Err-Failed : goal.returns-in-Err-Failed
returns-in-Err-Failed g c = ReaderFails (appends_nothing _)
