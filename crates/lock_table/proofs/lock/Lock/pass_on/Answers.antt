use Rattle.std.proofs.Common.{rules}
use Rattle.lock_table.proofs.lock.Lock.pass_on.Goals as goal

pub returns : goal.returns
returns c = search rules
