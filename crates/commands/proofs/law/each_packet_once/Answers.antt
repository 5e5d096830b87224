use Rattle.commands.proofs.LawOfAsides.{run-numbers}
use Rattle.commands.proofs.law.each_packet_once.Goals as goal

pub returns : goal.returns
returns g c = run-numbers g.R.Receiver.meaning
