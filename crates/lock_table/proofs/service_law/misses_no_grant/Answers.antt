use Rattle.lock_table.proofs.WaitersAreKept.{all-wait}
use Rattle.lock_table.proofs.service_law.misses_no_grant.Goals as goal

pub returns : goal.returns
returns c = all-wait
