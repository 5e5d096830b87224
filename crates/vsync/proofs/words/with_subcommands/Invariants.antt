use Rattle.std.proofs.Common.{◌≡◌, fold, take}
use Rattle.clap.specs.Words.{App, app_of}
use Rattle.vsync.specs.Grammar.{with_subcommand_row}
use Rattle.vsync.proofs.words.with_subcommands.Given as goal

abbrev pub invariant-loop-subcommand : goal.invariant-loop-subcommand
invariant-loop-subcommand l = (whole : App) → app_of l.fn.program ≡ whole → app_of l.program ≡ fold with_subcommand_row whole (take l.subcommand-index l.subcommands)
