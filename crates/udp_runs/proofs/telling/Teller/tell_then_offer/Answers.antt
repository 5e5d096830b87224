use Rattle.std.proofs.Common.{ap, refl, ◌∙◌}
use Rattle.udp_runs.specs.Processes.{all_told}
use Rattle.udp_runs.proofs.telling.Teller.tell_then_offer.Goals as goal

pub returns-in-Ok-clause-tells : goal.returns-in-Ok-clause-tells
returns-in-Ok-clause-tells g c = rw c.channel.ensures.value at c.in-Ok.ensures.tells

pub returns-in-Ok-clause-offers : goal.returns-in-Ok-clause-offers
returns-in-Ok-clause-offers g c = rw (c.in-Ok.ensures.told ∙ ap all_told c.channel.ensures.value) at c.offer.ensures.offers

pub returns-in-Err-clause-tells : goal.returns-in-Err-clause-tells
returns-in-Err-clause-tells g c = rw c.channel.ensures.value at c.in-Err.ensures.tells

pub returns-in-Err-clause-offers : goal.returns-in-Err-clause-offers
returns-in-Err-clause-offers g c = refl
