use Rattle.std.proofs.Common.{◌≡◌, ◌∙◌, ap, sym, Err}
use Rattle.vsync_text.specs.Traces.{trace_of}
use Rattle.vsync_text.specs.Outcomes.IsAnswer.{ReaderFails, Answers}
use Rattle.commands.specs.Draws.{IsDrawnTrace, TellsTrace}
use Rattle.commands.proofs.DrawingsEnd.{drawn-judged, faulty-as, unread-as, unread-answer}
use Rattle.commands.proofs.draws.run_draw_trace.Goals as goal
use Rattle.vsync_text.proofs.LinesWritten.{appends_nothing}

pub returns-in-Err-Memory : goal.returns-in-Err-Memory
returns-in-Err-Memory g c = unread-answer (IsDrawnTrace g.R.Receiver.meaning) _ _ _ _ (λ bytes. unread-as (TellsTrace g.R.Receiver.meaning bytes) _ _ _ _ c.end_undrawn.ensures)

pub returns-in-Err-Failed : goal.returns-in-Err-Failed
returns-in-Err-Failed g c = ReaderFails (appends_nothing _)

pub returns-in-Ok-read_trace : goal.returns-in-Ok-read_trace
returns-in-Ok-read_trace g c = Answers c.in-Ok.bytes.items _ c.in-Ok.ensures
    (drawn-judged g.R.Receiver.meaning c.in-Ok.bytes.items c.in-Ok-read_trace.trace.events _ _ _ (ap trace_of (sym c.as_slice.ensures.value) ∙ c.in-Ok-read_trace.ensures) c.judge_picture.ensures)

pub returns-in-Err-Fault : goal.returns-in-Err-Fault
returns-in-Err-Fault g c = Answers c.in-Ok.bytes.items _ c.in-Ok.ensures
    (faulty-as (TellsTrace g.R.Receiver.meaning c.in-Ok.bytes.items) (λ line fault. trace_of c.in-Ok.bytes.items ≡ Err (record { line = line; fault = fault })) c.in-Err-Fault.line c.in-Err-Fault.fault _ _ _
    (ap trace_of (sym c.as_slice.ensures.value) ∙ rw c.in-Err-Fault.field-0-is at c.in-Err-Fault.ensures) c.refuse.ensures)

pub returns : goal.returns
returns g c = unread-answer (IsDrawnTrace g.R.Receiver.meaning) _ _ _ _ (λ bytes. unread-as (TellsTrace g.R.Receiver.meaning bytes) _ _ _ _ c.end_undrawn-in-Err-Memory-read_trace.ensures)
