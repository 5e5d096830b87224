use Rattle.lock_fencing.proofs.GuardsRise.{refuses-below, never-back, none-below, none-older}
use Rattle.lock_fencing.proofs.law.guards_refuse_older.Goals as goal

pub returns-clause-below : goal.returns-clause-below
returns-clause-below c = refuses-below

pub returns-clause-never_back : goal.returns-clause-never_back
returns-clause-never_back c = never-back

pub returns-clause-none_below : goal.returns-clause-none_below
returns-clause-none_below c = none-below

pub returns-clause-none_older : goal.returns-clause-none_older
returns-clause-none_older c = none-older
