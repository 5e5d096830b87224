use Rattle.udp_runs.proofs.ScriptsPlay.{states-failed}
use Rattle.udp_runs.proofs.script.write_states.Goals as goal

pub returns-in-Err-clause-writes : goal.returns-in-Err-clause-writes
returns-in-Err-clause-writes g c empty =
    states-failed _ _ _ _ _ c.append_states-appended.result c.in-Err.ensures.err.0 c.in-Err.why c.in-Err.ensures.cut empty c.append_states-appended.ensures.text c.append_states-appended.ensures.err
    c.in-Err.ensures.err.1
