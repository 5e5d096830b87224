use Rattle.std.proofs.Common.{◌≡◌, fold, subst, sym, List, [], get_or}
use Rattle.std.specs.Borrow.{Bor}
use Rattle.std.proofs.lemmas.List.{take_all}
use Rattle.std.proofs.lemmas.List.Sums.{fold_more}
use Rattle.clap.specs.Words.{App, app_of}
use Rattle.vsync.specs.Grammar.{app_of_subcommand, with_subcommand_row}
use Rattle.vsync.specs.declared.arguments.Subcommand.{Subcommand}
use Rattle.vsync.proofs.Grammars.{with_command}
use Rattle.vsync.proofs.words.with_subcommands.Goals as goal

abbrev none : Bor Subcommand
none = record { ref_ptr = (0, 0); now = record { name = record { ref_ptr = (0, 0); now = [] }; about = record { ref_ptr = (0, 0); now = [] }; after_help = record { ref_ptr = (0, 0); now = [] }; arguments = record { ref_ptr = (0, 0); now = [] } } }

pub loop-subcommand-preserved : goal.loop-subcommand-preserved
loop-subcommand-preserved c = λ whole is. subst (λ (a : App). app_of c.in_ok-program.program ≡ a)
    (sym (fold_more with_subcommand_row whole c.args.subcommands.now c.loop-subcommand.subcommand-index none c.loop-subcommand-test.true))
    (with_command _ c.in_ok-command.command c.in_ok-program.program _ (app_of_subcommand (get_or c.args.subcommands.now c.loop-subcommand.subcommand-index none).now)
    (c.loop-subcommand.invariant whole is) c.in_ok-command.ensures c.in_ok-program.ensures)

pub returns : goal.returns
returns c = λ whole is. subst (λ (subcommands : List (Bor Subcommand)). app_of c.loop-subcommand.program ≡ fold with_subcommand_row whole subcommands)
    (take_all c.loop-subcommand.subcommand-index c.args.subcommands.now c.loop-subcommand-test.false) (c.loop-subcommand.invariant whole is)
