use Rattle.std.proofs.Common.{rules}
use Rattle.vsync.specs.Grammar.{option_rule, required_rule}
use Rattle.vsync.proofs.arguments.argument.Goals as goal

pub returns-in-Value : goal.returns-in-Value
returns-in-Value c = rw c.in-Value.is (c.taking.ensures (option_rule c.args.row.now.name.now) (search rules))

pub returns-in-Word : goal.returns-in-Word
returns-in-Word c = rw c.in-Word.is (c.taking-in-Word.ensures (required_rule c.args.row.now.name.now) (search rules))
