use Rattle.std.proofs.Common.{fold, take}
use Rattle.clap.specs.Simple.{new_app}
use Rattle.vsync.specs.Grammar.{with_row, IsCommand}
use Rattle.vsync.proofs.arguments.command_of.Given as goal

abbrev pub invariant-loop-row : goal.invariant-loop-row
invariant-loop-row l = IsCommand (fold with_row (new_app l.subcommand.name.now) (take l.row-index l.subcommand.arguments.now)) l.command
