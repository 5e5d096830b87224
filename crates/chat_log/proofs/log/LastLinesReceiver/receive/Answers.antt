use Rattle.std.proofs.Common.{rules, arith}
use Rattle.std.proofs.lemmas.Grind.{common_steps}
use Rattle.chat_log.proofs.log.LastLinesReceiver.receive.Goals as goal

pub invariant_of-self : goal.invariant_of-self
invariant_of-self c = search rules

pub invariant_of-self-then-len-LINES : goal.invariant_of-self-then-len-LINES
invariant_of-self-then-len-LINES g c = grind (arith, common_steps)

pub invariant_of-self-else-len-LINES : goal.invariant_of-self-else-len-LINES
invariant_of-self-else-len-LINES g c = grind (arith, common_steps)
