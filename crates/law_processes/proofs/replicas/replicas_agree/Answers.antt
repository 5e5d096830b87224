use Rattle.law_processes.proofs.ClausesOfCopies.{agree-each}
use Rattle.law_processes.proofs.replicas.replicas_agree.Goals as goal

pub returns : goal.returns
returns g c = agree-each g.R.Receiver.meaning
