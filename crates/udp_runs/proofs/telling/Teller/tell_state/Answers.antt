use Rattle.udp_runs.proofs.NodesTell.{writes-state}
use Rattle.udp_runs.proofs.telling.Teller.tell_state.Goals as goal

pub returns-clause-writes : goal.returns-clause-writes
returns-clause-writes g c =
    writes-state _ _ _ _ _ _ _ _ c.clear.ensures.items c.append_state_of-appended.ensures.text c.append_state_of-appended.ensures.err c.show.ensures
