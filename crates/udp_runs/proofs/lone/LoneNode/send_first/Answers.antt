use Rattle.std.proofs.Common.{sym}
use Rattle.udp_runs.proofs.NodesTell.{quiet-none}
use Rattle.udp_runs.proofs.LinesOwed.{may-first}
use Rattle.udp_runs.proofs.lone.LoneNode.send_first.Goals as goal

pub returns-in_default-clause-drives : goal.returns-in_default-clause-drives
returns-in_default-clause-drives g c group start later = quiet-none _ _ _ _ group _

pub returns-then-ne-eq-clause-drives : goal.returns-then-ne-eq-clause-drives
returns-then-ne-eq-clause-drives g c group start later = quiet-none _ _ _ _ group _

pub returns-in_err-payload-clause-drives : goal.returns-in_err-payload-clause-drives
returns-in_err-payload-clause-drives g c group start later = quiet-none _ _ _ _ group _

pub returns-in_default-2-clause-drives : goal.returns-in_default-2-clause-drives
returns-in_default-2-clause-drives g c group start later = quiet-none _ _ _ _ group _

pub returns-in_err-number-clause-drives : goal.returns-in_err-number-clause-drives
returns-in_err-number-clause-drives g c group start later = c.sends.ensures.drives group start later (may-first _ _ _ _ start later _ c.in-Some.view.now (sym (rw c.channel_ref-channel.ensures at c.in-Some.ensures)) (rw c.id-id.ensures at c.is_id.ensures) (sym (rw c.in-Some-2.is at c.in_ok-payload.ensures)))

pub returns-clause-drives : goal.returns-clause-drives
returns-clause-drives g c group start later = c.sends.ensures.drives group start later (may-first _ _ _ _ start later _ c.in-Some.view.now (sym (rw c.channel_ref-channel.ensures at c.in-Some.ensures)) (rw c.id-id.ensures at c.is_id.ensures) (sym (rw c.in-Some-2.is at c.in_ok-payload.ensures)))
