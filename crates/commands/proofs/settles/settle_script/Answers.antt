use Rattle.vsync_text.specs.Script.{as_written}
use Rattle.commands.specs.Settled.{IsSettledText}
use Rattle.vsync_text.proofs.TextsFollow.{ran-text, unrun-text}
use Rattle.commands.proofs.settles.settle_script.Goals as goal

pub returns-in-Ok : goal.returns-in-Ok
returns-in-Ok g c = ran-text as_written (IsSettledText g.R.Receiver.meaning c.args.delivers) _ _ _ _ c.in-Ok.script _ c.in-Ok.ensures c.play_settled.ensures

pub returns-in-Err : goal.returns-in-Err
returns-in-Err g c = unrun-text as_written (IsSettledText g.R.Receiver.meaning c.args.delivers) _ _ _ _ c.in-Err.ensures
