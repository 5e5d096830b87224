use Rattle.udp_runs.proofs.ScriptCommandsEnd.{unrun, run-ended, run-cut, run-stopped}
use Rattle.udp_runs.proofs.script.run_udp.Goals as goal

pub returns-in-Err : goal.returns-in-Err
returns-in-Err g c = unrun _ _ _ _ _ _ _ _ _ _ _ _ c.in-Err.ensures.err

pub returns-in-Ok-play : goal.returns-in-Ok-play
returns-in-Ok-play g c = run-ended _ _ _ _ _ _ _ _ _ _ _ _ _ _ _ _ c.as_slice.ensures.value c.in-Ok.ensures.ok c.in-Ok-play.ensures c.end.ensures

pub returns-in-Err-Cut : goal.returns-in-Err-Cut
returns-in-Err-Cut g c = run-cut _ _ _ _ _ _ _ _ _ _ _ _ _ _ _ c.in-Err-Cut.why _ c.as_slice.ensures.value c.in-Ok.ensures.ok (rw c.in-Err-Cut.field-0-is at c.in-Err-Cut.ensures) c.end-in-Err-Cut.ensures

pub returns : goal.returns
returns g c = run-stopped _ _ _ _ _ _ _ _ _ _ _ _ _ _ _ c.in-Err-NoNet.line c.in-Err-NoNet.error _ c.as_slice.ensures.value c.in-Ok.ensures.ok (rw c.in-Err-NoNet.field-0-is at c.in-Err-NoNet.ensures) c.end_without_net.ensures
