use Rattle.lock_table.proofs.MovesAreMade.{free-granted, held-waits, release-leaves, roll-leaves}
use Rattle.lock_table.proofs.law.moves.Goals as goal

pub returns-clause-grants : goal.returns-clause-grants
returns-clause-grants c = free-granted

pub returns-clause-waits : goal.returns-clause-waits
returns-clause-waits c = held-waits

pub returns-clause-releases : goal.returns-clause-releases
returns-clause-releases c = release-leaves

pub returns-clause-rolls : goal.returns-clause-rolls
returns-clause-rolls c = roll-leaves
