use Rattle.std.proofs.Common.{sym}
use Rattle.udp_runs.proofs.NodesTell.{quiet-none}
use Rattle.udp_runs.proofs.LinesOwed.{may-text}
use Rattle.udp_runs.proofs.lone.LoneNode.says.Goals as goal

pub returns-in_default-clause-drives : goal.returns-in_default-clause-drives
returns-in_default-clause-drives g c group start came later is earlier = quiet-none _ _ _ _ group _

pub returns-in_err-number-in-Ok-clause-drives : goal.returns-in_err-number-in-Ok-clause-drives
returns-in_err-number-in-Ok-clause-drives g c group start came later is earlier = c.sends.ensures.drives group start later (may-text _ _ _ _ start came later c.args.text.now _ c.in-Some.view.now (sym (rw c.channel_ref.ensures at c.in-Some.ensures)) (rw c.id-id.ensures at c.is_id.ensures) (rw c.id-id.ensures at c.in-Ok.ensures) is earlier)

pub returns-in-Ok-clause-drives : goal.returns-in-Ok-clause-drives
returns-in-Ok-clause-drives g c group start came later is earlier = c.sends.ensures.drives group start later (may-text _ _ _ _ start came later c.args.text.now _ c.in-Some.view.now (sym (rw c.channel_ref.ensures at c.in-Some.ensures)) (rw c.id-id.ensures at c.is_id.ensures) (rw c.id-id.ensures at c.in-Ok.ensures) is earlier)

pub returns-in-Err-Memory-clause-drives : goal.returns-in-Err-Memory-clause-drives
returns-in-Err-Memory-clause-drives g c group start came later is earlier = quiet-none _ _ _ _ group _

pub returns-clause-drives : goal.returns-clause-drives
returns-clause-drives g c group start came later is earlier = quiet-none _ _ _ _ group _

pub returns-in-Some-2-clause-drives : goal.returns-in-Some-2-clause-drives
returns-in-Some-2-clause-drives g c group start came later is earlier = c.sends.ensures.drives group start later (may-text _ _ _ _ start came later c.args.text.now _ c.in-Some.view.now (sym (rw c.channel_ref.ensures at c.in-Some.ensures)) (rw c.id-id.ensures at c.is_id.ensures) (rw c.id-id.ensures at c.in-Ok.ensures) is earlier)
