use Rattle.std.proofs.Common.{arith}
use Rattle.std.proofs.lemmas.Grind.{common_steps}
use Rattle.chat_log.proofs.chat_lines.put_lines.Goals as goal

pub returns-in_ok-put_said-in-Some-clause-text : goal.returns-in_ok-put_said-in-Some-clause-text
returns-in_ok-put_said-in-Some-clause-text g c = grind (arith, common_steps)
