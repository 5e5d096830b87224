use Rattle.commands.proofs.LawOfAsides.{run-order}
use Rattle.commands.proofs.law.asides_in_order.Goals as goal

pub returns : goal.returns
returns g c = run-order g.R.Receiver.meaning
