use Rattle.std.proofs.Common.{inr}
use Rattle.udp_runs.proofs.NodesTell.{quiet-none}
use Rattle.udp_runs.proofs.LinesOwed.{unlisted-line}
use Rattle.udp_runs.proofs.lone.LoneNode.send_write.Goals as goal

pub returns-in_err-line-clause-drives : goal.returns-in_err-line-clause-drives
returns-in_err-line-clause-drives g c group start later owed earlier = quiet-none _ _ _ _ group _

pub returns-in_default-clause-drives : goal.returns-in_default-clause-drives
returns-in_default-clause-drives g c group start later owed earlier = quiet-none _ _ _ _ group _

pub returns-in_err-number-clause-drives : goal.returns-in_err-number-clause-drives
returns-in_err-number-clause-drives g c group start later owed earlier = c.says.ensures.drives group start _ later (inr (unlisted-line start _ _ (rw c.in-Some.is at c.in_ok-line.ensures.unlisted))) (rw c.next_write.ensures.came at earlier)

pub returns-in-Taken-clause-drives : goal.returns-in-Taken-clause-drives
returns-in-Taken-clause-drives g c group start later owed earlier = c.says.ensures.drives group start _ later (inr (unlisted-line start _ _ (rw c.in-Some.is at c.in_ok-line.ensures.unlisted))) (rw (c.wrote.ensures, c.next_write.ensures.came) at earlier)

pub returns-in-Waits-clause-drives : goal.returns-in-Waits-clause-drives
returns-in-Waits-clause-drives g c group start later owed earlier = c.says.ensures.drives group start _ later (inr (unlisted-line start _ _ (rw c.in-Some.is at c.in_ok-line.ensures.unlisted))) (rw c.next_write.ensures.came at earlier)

pub returns-clause-drives : goal.returns-clause-drives
returns-clause-drives g c group start later owed earlier = c.says.ensures.drives group start _ later (inr (unlisted-line start _ _ (rw c.in-Some.is at c.in_ok-line.ensures.unlisted))) (rw (c.wrote-in-Bad.ensures, c.next_write.ensures.came) at earlier)
