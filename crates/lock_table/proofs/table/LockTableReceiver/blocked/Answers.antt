use Rattle.std.proofs.Common.{rules}
use Rattle.lock_table.proofs.table.LockTableReceiver.blocked.Goals as goal

pub returns : goal.returns
returns c = search rules
