use Rattle.std.proofs.Common.{◌∙◌, ap, true}
use Rattle.std.proofs.lemmas.Result.{IfOk-weaker}
use Rattle.clap.specs.Words.{App}
use Rattle.clap.specs.Simple.{app_of_fields}
use Rattle.vsync.proofs.words.grammar.Goals as goal

pub returns : goal.returns
returns c =
    let named = ap app_of_fields c.after_help.ensures ∙ (ap app_of_fields c.about.ensures ∙ (ap app_of_fields c.in_ok-bin_name.ensures.0 ∙ c.new.ensures.app)) in
    IfOk-weaker c.with_subcommands.result _ _ (λ r e. e ∙ c.subcommands.ensures) (c.with_subcommands.ensures _ (ap app_of_fields c.subcommand_required-program.ensures ∙ ap (λ (a : App). record a { top = record a.top { subcommand_required = true } }) named))
