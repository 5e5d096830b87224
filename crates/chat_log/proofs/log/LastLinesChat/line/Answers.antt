use Rattle.std.proofs.Common.{rules, arith}
use Rattle.std.proofs.lemmas.Grind.{elements}
use Rattle.chat_log.proofs.log.LastLinesChat.line.Goals as goal

pub returns-in_err-line-clause-few : goal.returns-in_err-line-clause-few
returns-in_err-line-clause-few c = search rules

pub returns-clause-few : goal.returns-clause-few
returns-clause-few c = search rules

pub returns-clause-line : goal.returns-clause-line
returns-clause-line c = grind (arith, elements)
