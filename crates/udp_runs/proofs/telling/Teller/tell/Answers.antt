use Rattle.udp_runs.proofs.NodesTell.{writes-turn, on-shown}
use Rattle.udp_runs.proofs.telling.Teller.tell.Goals as goal

pub returns-clause-tells : goal.returns-clause-tells
returns-clause-tells g c = writes-turn _ _ _ _ c.args.channel.now _ _ _ _ c.clear.ensures.items c.append_turn-appended.ensures.text c.show.ensures

pub returns-clause-told : goal.returns-clause-told
returns-clause-told g c = on-shown _ _ _ _ _ _ c.show.ensures c.append_turn-appended.ensures.told

pub returns-clause-unsaid : goal.returns-clause-unsaid
returns-clause-unsaid g c = on-shown _ _ _ _ _ _ c.show.ensures c.append_turn-appended.ensures.unsaid
