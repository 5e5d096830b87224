use Rattle.lock_table.proofs.GrantsWereAsked.{follows}
use Rattle.lock_table.proofs.service_law.follows.Goals as goal

pub returns : goal.returns
returns c = follows
