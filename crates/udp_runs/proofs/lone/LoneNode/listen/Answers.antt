use Rattle.std.proofs.Common.{refl}
use Rattle.law_runners.specs.Runs.{Listen}
use Rattle.udp_runs.proofs.NodesTell.{quiet-none, quiet-by, quiet-then}
use Rattle.udp_runs.proofs.LinesOwed.{filled-owes, on-any}
use Rattle.udp_runs.proofs.LinesKept.{fills-earlier}
use Rattle.udp_runs.proofs.lone.LoneNode.listen.Goals as goal

pub returns-in_err-take_lines-clause-drives : goal.returns-in_err-take_lines-clause-drives
returns-in_err-take_lines-clause-drives g c group start later owed earlier = quiet-none _ _ _ _ group _

pub returns-in_err-has_sent-clause-drives : goal.returns-in_err-has_sent-clause-drives
returns-in_err-has_sent-clause-drives g c group start later owed earlier = c.send_lines.ensures.drives group start _ later (filled-owes _ _ _ _ _ _ _ c.in_ok-take_lines.ensures refl owed) earlier

pub returns-in_err-has_written-clause-drives : goal.returns-in_err-has_written-clause-drives
returns-in_err-has_written-clause-drives g c group start later owed earlier = quiet-then _ _ _ _ group _ _ _ (c.send_lines.ensures.drives group start _ later (filled-owes _ _ _ _ _ _ _ c.in_ok-take_lines.ensures refl owed) (rw c.send_writes.ensures.came at earlier)) (rw c.send_lines.ensures.same.1 at c.send_writes.ensures.drives group start later (c.in_ok-has_sent.ensures.owes start _ (filled-owes _ _ _ _ _ _ _ c.in_ok-take_lines.ensures refl owed)) earlier)

pub returns-clause-drives : goal.returns-clause-drives
returns-clause-drives g c group start later owed earlier = quiet-then _ _ _ _ group _ _ _ (quiet-then _ _ _ _ group _ _ _ (c.send_lines.ensures.drives group start _ later (filled-owes _ _ _ _ _ _ _ c.in_ok-take_lines.ensures refl owed) (rw c.send_writes.ensures.came at earlier)) (rw c.send_lines.ensures.same.1 at c.send_writes.ensures.drives group start later (c.in_ok-has_sent.ensures.owes start _ (filled-owes _ _ _ _ _ _ _ c.in_ok-take_lines.ensures refl owed)) earlier)) (quiet-by _ _ _ _ group _ _ _ (Listen _ _ c.listen-heard.ensures) refl tt)

pub returns-in_err-take_lines-clause-grows : goal.returns-in_err-take_lines-clause-grows
returns-in_err-take_lines-clause-grows g c = fills-earlier _ _ _ _ _ c.take_lines.ensures

pub returns-in_err-has_sent-clause-grows : goal.returns-in_err-has_sent-clause-grows
returns-in_err-has_sent-clause-grows g c = fills-earlier _ _ _ _ _ c.take_lines.ensures

pub returns-in_err-has_written-clause-grows : goal.returns-in_err-has_written-clause-grows
returns-in_err-has_written-clause-grows g c = rw c.send_writes.ensures.came (fills-earlier _ _ _ _ _ c.take_lines.ensures)

pub returns-clause-grows : goal.returns-clause-grows
returns-clause-grows g c = rw c.send_writes.ensures.came (fills-earlier _ _ _ _ _ c.take_lines.ensures)

pub returns-clause-owes : goal.returns-clause-owes
returns-clause-owes g c start owed = on-any _ c.has_more.result (c.in_ok-has_written.ensures.owes start (c.in_ok-has_sent.ensures.owes start _ (filled-owes _ _ _ _ _ _ _ c.in_ok-take_lines.ensures refl owed)))
