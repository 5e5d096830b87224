use Rattle.std.proofs.Common.{rules}
use Rattle.replicated_map.proofs.map.ReplicatedMapReceiver.blocked.Goals as goal

pub returns : goal.returns
returns c = search rules
