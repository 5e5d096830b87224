use Rattle.udp_runs.proofs.NodesTell.{quiet-none, quiet-then}
use Rattle.udp_runs.proofs.lone.LoneNode.send_all.Goals as goal

pub returns-then-holds-clause-drives : goal.returns-then-holds-clause-drives
returns-then-holds-clause-drives g c group start came later owed earlier = quiet-none _ _ _ _ group _

pub returns-in_err-send_first-clause-drives : goal.returns-in_err-send_first-clause-drives
returns-in_err-send_first-clause-drives g c group start came later owed earlier = c.send_first.ensures.drives group start later

pub returns-in_err-send_once-clause-drives : goal.returns-in_err-send_once-clause-drives
returns-in_err-send_once-clause-drives g c group start came later owed earlier = quiet-then _ _ _ _ group _ _ _ (c.send_first.ensures.drives group start later) (rw c.send_first.ensures.same.1 at c.send_once.ensures.drives group start later)

pub returns-in_err-send_lines-clause-drives : goal.returns-in_err-send_lines-clause-drives
returns-in_err-send_lines-clause-drives g c group start came later owed earlier = quiet-then _ _ _ _ group _ _ _ (quiet-then _ _ _ _ group _ _ _ (c.send_first.ensures.drives group start later) (rw c.send_first.ensures.same.1 at c.send_once.ensures.drives group start later)) (rw (c.send_once.ensures.same.1, c.send_first.ensures.same.1) at c.send_lines.ensures.drives group start came later (c.in_ok-send_once.ensures.owes start came (c.in_ok-send_first.ensures.owes start came owed)) earlier)

pub returns-clause-drives : goal.returns-clause-drives
returns-clause-drives g c group start came later owed earlier = quiet-then _ _ _ _ group _ _ _ (quiet-then _ _ _ _ group _ _ _ (c.send_first.ensures.drives group start later) (rw c.send_first.ensures.same.1 at c.send_once.ensures.drives group start later)) (rw (c.send_once.ensures.same.1, c.send_first.ensures.same.1) at c.send_lines.ensures.drives group start came later (c.in_ok-send_once.ensures.owes start came (c.in_ok-send_first.ensures.owes start came owed)) earlier)

pub returns-clause-owes : goal.returns-clause-owes
returns-clause-owes g c start came owed = c.in_ok-send_lines.ensures.owes start came (c.in_ok-send_once.ensures.owes start came (c.in_ok-send_first.ensures.owes start came owed))
