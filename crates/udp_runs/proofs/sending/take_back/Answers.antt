use Rattle.udp_runs.proofs.LinesOwed.{back-keeps}
use Rattle.udp_runs.proofs.sending.take_back.Goals as goal

pub returns : goal.returns
returns c = back-keeps _ _ _ _ (rw (c.as_slice.ensures.value, c.take_lines-lines.ensures.lines) at c.in_ok-begin_with.ensures.before) c.take_lines-lines.ensures.rest
