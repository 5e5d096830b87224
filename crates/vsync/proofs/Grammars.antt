-- What clap's commands come to, argument by argument.
use Rattle.std.proofs.Common.{◌≡◌, ◌||◌, ◌∙◌, ap₂, codes, refl, true, false, Option, None, Some, is_none, option_map, List, map, length, nat_lt}
use Rattle.std.specs.Borrow.{Bor}
use Rattle.std.proofs.lemmas.List.{length-map}
use Rattle.clap.specs.declared.builder.arg.Arg.{Arg}
use Rattle.clap.specs.declared.builder.command.Command.{Command}
use Rattle.clap.specs.Words.{AddsArg, AddsSubcommand, App, Row, Rule, Text, all_of, app_of, with_rule, with_subcommand}
use Rattle.vsync.specs.Grammar.{IsArg, IsCommand}
use Rattle.vsync.specs.Kept.{stands}
use Rattle.vsync.specs.Words.{has_stray_trace}

-- one more argument
pub with_one : (old : Command) (a : Arg) (new : Command) (app : App) (rule : Rule) → IsCommand app old → IsArg rule a → AddsArg old a new
    → IsCommand (with_rule app rule) new
with_one old a new app rule is arg adds = (adds.shape arg.1 ∙ ap₂ with_rule is.0 arg.0, adds.globals ∙ ap₂ ◌||◌ is.1 arg.1)

-- one more subcommand
pub with_command : (old command new : Command) (whole app : App) → app_of old ≡ whole → IsCommand app command → AddsSubcommand old command new → app_of new ≡ with_subcommand whole app.top
with_command old command new whole app was is adds = adds.shape is.1 ∙ ap₂ (λ (w a : App). with_subcommand w a.top) was is.0

-- what stands nowhere has no text
pub nothing_there : {X Y : Type 0} (g : X → Y) (o : Option X) → is_none o ≡ true → option_map g o ≡ None
nothing_there g None e = refl
nothing_there g (Some x) e = absurd (cc)

-- the traces behind the first are stray where `--processes` does not stand there
pub stray_is : (rows : List Row) (traces : List (Bor Text)) → stands (codes "processes") rows ≡ false → all_of (codes "TRACE") rows ≡ Some (map (λ v. v.now) traces)
    → has_stray_trace rows ≡ nat_lt 1 (length traces)
stray_is rows traces gone is = rw (gone, is, length-map traces (λ v. v.now)) refl

pub none_is_stray : (rows : List Row) → stands (codes "processes") rows ≡ false → all_of (codes "TRACE") rows ≡ None → has_stray_trace rows ≡ false
none_is_stray rows gone is = rw (gone, is) refl
