use Rattle.std.proofs.Common.{rules, arith}
use Rattle.std.proofs.lemmas.Grind.{common_steps}
use Rattle.view.proofs.addresses.+each_once.Goals as goal

pub returns-in-None : goal.returns-in-None
returns-in-None t c = grind (arith, common_steps)

pub returns-then-stands_in : goal.returns-then-stands_in
returns-then-stands_in t c = search rules

pub returns-else-stands_in : goal.returns-else-stands_in
returns-else-stands_in t c = search rules
