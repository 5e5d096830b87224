use Rattle.lock_table.proofs.OthersRelease.{other-release}
use Rattle.lock_table.proofs.law.release_by_another.Goals as goal

pub returns : goal.returns
returns c = other-release
