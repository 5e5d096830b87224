use Rattle.commands.specs.States.{IsStatesText}
use Rattle.vsync_text.proofs.TextsFollow.{ran-text, unrun-text}
use Rattle.commands.proofs.states.run_states.Goals as goal

pub returns-in-Ok : goal.returns-in-Ok
returns-in-Ok g c =
    ran-text g.A.Payloads.payload_of (IsStatesText g.A.Receiver.meaning g.A.Application.line_of) _ _ _ _ c.in-Ok.script _ c.in-Ok.ensures c.play_states.ensures

pub returns-in-Err : goal.returns-in-Err
returns-in-Err g c = unrun-text g.A.Payloads.payload_of (IsStatesText g.A.Receiver.meaning g.A.Application.line_of) _ _ _ _ c.in-Err.ensures
