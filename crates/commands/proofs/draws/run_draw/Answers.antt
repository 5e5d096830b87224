use Rattle.std.proofs.Common.{◌≡◌, ◌∙◌, ap, sym, Err}
use Rattle.vsync_text.specs.Script.{script_of}
use Rattle.vsync_text.specs.Outcomes.IsAnswer.{ReaderFails, Answers}
use Rattle.commands.specs.Draws.{IsDrawnScript, TellsScript}
use Rattle.commands.proofs.DrawingsEnd.{drawn-run, faulty-as, unread-as, unread-answer}
use Rattle.commands.proofs.draws.run_draw.Goals as goal
use Rattle.vsync_text.proofs.LinesWritten.{appends_nothing}

pub returns-in-Err-Memory : goal.returns-in-Err-Memory
returns-in-Err-Memory g c = unread-answer (IsDrawnScript g.R.Receiver.meaning c.args.packets) _ _ _ _ (λ bytes. unread-as (TellsScript g.R.Receiver.meaning c.args.packets bytes) _ _ _ _ c.end_undrawn.ensures)

pub returns-in-Err-Failed : goal.returns-in-Err-Failed
returns-in-Err-Failed g c = ReaderFails (appends_nothing _)

pub returns-in-Ok-read_script : goal.returns-in-Ok-read_script
returns-in-Ok-read_script g c = Answers c.in-Ok.bytes.items _ c.in-Ok.ensures
    (drawn-run g.R.Receiver.meaning c.args.packets c.in-Ok.bytes.items c.in-Ok-read_script.script _ _ _ (ap script_of (sym c.as_slice.ensures.value) ∙ c.in-Ok-read_script.ensures) c.play_picture.ensures)

pub returns-in-Err-Fault : goal.returns-in-Err-Fault
returns-in-Err-Fault g c = Answers c.in-Ok.bytes.items _ c.in-Ok.ensures
    (faulty-as (TellsScript g.R.Receiver.meaning c.args.packets c.in-Ok.bytes.items) (λ line fault. script_of c.in-Ok.bytes.items ≡ Err (record { line = line; fault = fault })) c.in-Err-Fault.line c.in-Err-Fault.fault _ _ _
    (ap script_of (sym c.as_slice.ensures.value) ∙ rw c.in-Err-Fault.field-0-is at c.in-Err-Fault.ensures) c.refuse.ensures)

pub returns : goal.returns
returns g c = unread-answer (IsDrawnScript g.R.Receiver.meaning c.args.packets) _ _ _ _ (λ bytes. unread-as (TellsScript g.R.Receiver.meaning c.args.packets bytes) _ _ _ _ c.end_undrawn-in-Err-Memory-read_script.ensures)
