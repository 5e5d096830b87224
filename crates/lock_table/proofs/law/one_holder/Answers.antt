use Rattle.lock_table.specs.Turns.{after_all}
use Rattle.lock_table.specs.Locks.{lock_of}
use Rattle.lock_table.proofs.HoldersHold.{holds-on, holds-said, leaves-between}
use Rattle.lock_table.proofs.law.one_holder.Goals as goal

pub returns-clause-holds_on : goal.returns-clause-holds_on
returns-clause-holds_on c = λ s messages name l is all here stays. holds-said l (lock_of name (after_all s messages)) (holds-on messages s name l is all here stays)

pub returns-clause-between : goal.returns-clause-between
returns-clause-between c = leaves-between
