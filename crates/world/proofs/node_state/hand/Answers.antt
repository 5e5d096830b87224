use Rattle.world.proofs.NodesGive.{fits}
use Rattle.world.proofs.node_state.hand.Goals as goal

pub settle-requires-clause-fits : goal.settle-requires-clause-fits
settle-requires-clause-fits g c = fits g.R.Receiver.meaning _ _ _ _ c.handled-called.ensures
