use Rattle.std.proofs.Common.{rules}
use Rattle.replicated_map.proofs.map.ReplicatedMapReceiver.view_accepted.Goals as goal

pub returns : goal.returns
returns c = search rules
