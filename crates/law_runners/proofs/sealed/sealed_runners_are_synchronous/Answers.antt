use Rattle.law_runners.proofs.OnePacket.{merged-are, sealed-are}
use Rattle.law_runners.proofs.sealed.sealed_runners_are_synchronous.Goals as goal

pub returns-clause-merged : goal.returns-clause-merged
returns-clause-merged g c = merged-are g.N.Net.log g.R.Receiver.meaning c.lives_are_of_frames.ensures

pub returns-clause-synchronous : goal.returns-clause-synchronous
returns-clause-synchronous g c = sealed-are g.N.Net.log g.R.Receiver.meaning c.lives_are_of_frames.ensures c.runners_are_synchronous.ensures.merged
