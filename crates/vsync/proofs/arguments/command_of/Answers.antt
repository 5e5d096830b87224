use Rattle.std.proofs.Common.{fold, subst, sym, List, [], get_or}
use Rattle.std.proofs.lemmas.List.{take_all}
use Rattle.std.proofs.lemmas.List.Sums.{fold_more}
use Rattle.clap.specs.Simple.{new_app}
use Rattle.clap.specs.Words.{App}
use Rattle.vsync.specs.Grammar.{rule_of_row, with_row, IsCommand}
use Rattle.vsync.specs.declared.arguments.Form.TheVariants.{Flag}
use Rattle.vsync.specs.declared.arguments.Row.{Row}
use Rattle.vsync.proofs.Grammars.{with_one}
use Rattle.vsync.proofs.arguments.command_of.Goals as goal

abbrev no_row : Row
no_row = record { name = record { ref_ptr = (0, 0); now = [] }; form = Flag; help = record { ref_ptr = (0, 0); now = [] } }

pub loop-row-preserved : goal.loop-row-preserved
loop-row-preserved c =
    let rows = c.args.subcommand.now.arguments.now in
    subst (λ (a : App). IsCommand a c.in_ok-command.command) (sym (fold_more with_row (new_app c.args.subcommand.now.name.now) rows c.loop-row.row-index no_row c.loop-row-test.true))
    (with_one _ _ c.in_ok-command.command _ (rule_of_row (get_or rows c.loop-row.row-index no_row)) c.loop-row.invariant c.argument.ensures c.in_ok-command.ensures)

pub returns : goal.returns
returns c = subst (λ (rows : List Row). IsCommand (fold with_row (new_app c.args.subcommand.now.name.now) rows) c.loop-row.command)
    (take_all c.loop-row.row-index c.args.subcommand.now.arguments.now c.loop-row-test.false) c.loop-row.invariant
