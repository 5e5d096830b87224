use Rattle.replicated_map.proofs.TicketsAreKept.{forgets-nobody}
use Rattle.replicated_map.proofs.service_law.forgets_nobody.Goals as goal

pub returns : goal.returns
returns c = forgets-nobody
