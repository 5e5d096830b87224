use Rattle.lock_table.proofs.OthersRelease.{second-roll}
use Rattle.lock_table.proofs.law.roll_again.Goals as goal

pub returns : goal.returns
returns c = second-roll
