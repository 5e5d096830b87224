use Rattle.udp_runs.proofs.NodesTell.{quiet-sent, that-said}
use Rattle.udp_runs.proofs.lone.LoneNode.sends.Goals as goal

pub returns-in_err-answer-clause-drives : goal.returns-in_err-answer-clause-drives
returns-in_err-answer-clause-drives g c group start later may = quiet-sent _ _ _ _ group _ (that-said _ _ _ may) _ _ _ (c.send_numbered.ensures.called group) c.send_numbered.ensures.uncalled

pub returns-in_err-number-clause-drives : goal.returns-in_err-number-clause-drives
returns-in_err-number-clause-drives g c group start later may = quiet-sent _ _ _ _ group _ (that-said _ _ _ may) _ _ _ (c.send_numbered.ensures.called group) c.send_numbered.ensures.uncalled

pub returns-in_err-note_sent-clause-drives : goal.returns-in_err-note_sent-clause-drives
returns-in_err-note_sent-clause-drives g c group start later may = quiet-sent _ _ _ _ group _ (that-said _ _ _ may) _ _ _ (c.send_numbered.ensures.called group) c.send_numbered.ensures.uncalled

pub returns-clause-drives : goal.returns-clause-drives
returns-clause-drives g c group start later may = quiet-sent _ _ _ _ group _ (that-said _ _ _ may) _ _ _ (c.send_numbered.ensures.called group) c.send_numbered.ensures.uncalled
