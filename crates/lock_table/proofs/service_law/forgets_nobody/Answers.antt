use Rattle.lock_table.proofs.WaitersAreKept.{forgets-nobody}
use Rattle.lock_table.proofs.service_law.forgets_nobody.Goals as goal

pub returns : goal.returns
returns c = forgets-nobody
