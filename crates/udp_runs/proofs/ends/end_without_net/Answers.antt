use Rattle.std.proofs.Common.{◌∙◌}
use Rattle.udp_runs.proofs.RunTextsEnd.{unlisted-text, unbound-text, unprinted-text}
use Rattle.udp_runs.proofs.ends.end_without_net.Goals.{in-Config, in-Bind}
use Rattle.udp_runs.proofs.ends.end_without_net.Goals as goal

pub returns-in-Memory : goal.returns-in-Memory
returns-in-Memory g c = unprinted-text _ _ _ _ _ c.end_in_memory.ensures

pub returns-in-Ok : goal.returns-in-Ok
returns-in-Ok g c =
    elim c.match-error.branch [
      | in-Config w ↦ unlisted-text _ _ _ _ _ _ _ _ w.in-Config.is w.status-is c.number-number.ensures (c.as_bytes.ensures.value ∙ c.in-Ok.ensures.ok) c.end_with.ensures
      | in-Bind w ↦ unbound-text _ _ _ _ _ _ _ _ w.in-Bind.is w.status-is c.number-number.ensures (c.as_bytes.ensures.value ∙ c.in-Ok.ensures.ok) c.end_with.ensures
    ]

pub returns-in-Err : goal.returns-in-Err
returns-in-Err g c = unprinted-text _ _ _ _ _ c.end_in_memory-in-Err.ensures
