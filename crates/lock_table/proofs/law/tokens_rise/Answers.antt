use Rattle.lock_table.proofs.GrantsRise.{later-above}
use Rattle.lock_table.proofs.OneMessageGrants.{one-message-rises}
use Rattle.lock_table.proofs.law.tokens_rise.Goals as goal

pub returns-clause-along : goal.returns-clause-along
returns-clause-along c = later-above

pub returns-clause-at_once : goal.returns-clause-at_once
returns-clause-at_once c = one-message-rises
