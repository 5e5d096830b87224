use Rattle.udp_runs.proofs.NodesTell.{nothing-said, quiet-sent}
use Rattle.udp_runs.proofs.searching.say_nothing.Goals as goal

pub returns-in_err-answer-clause-drives : goal.returns-in_err-answer-clause-drives
returns-in_err-answer-clause-drives g c once start later = quiet-sent _ _ _ _ _ _ (nothing-said _ _ _ c.requires) _ _ _ (rw (c.as_slice.ensures.bytes, c.group-group.ensures) at c.do_call.ensures.called) c.do_call.ensures.uncalled

pub returns-clause-drives : goal.returns-clause-drives
returns-clause-drives g c once start later = quiet-sent _ _ _ _ _ _ (nothing-said _ _ _ c.requires) _ _ _ (rw (c.as_slice.ensures.bytes, c.group-group.ensures) at c.do_call.ensures.called) c.do_call.ensures.uncalled
