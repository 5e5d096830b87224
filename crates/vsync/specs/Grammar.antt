-- The grammar of the command line, in clap's words.
use Rattle.std.specs.Prelude.{◌≡◌, ◌∷◌, ◌++◌, ℕ, List, false, true, [], Some, codes, fold}
use Rattle.std.specs.Borrow.{Bor}
use Rattle.vsync.specs.declared.arguments.Form.{Form}
use Rattle.vsync.specs.declared.arguments.Form.TheVariants.{Flag, Value, Word}
use Rattle.vsync.specs.declared.arguments.Takes.{Takes}
use Rattle.vsync.specs.declared.arguments.Takes.TheVariants.{One, Several, Number}
use Rattle.vsync.specs.declared.arguments.Row.{Row}
use Rattle.vsync.specs.declared.arguments.Subcommand.{Subcommand}
use Rattle.clap.specs.Words.{App, Rule, Text, app_of, new_app, new_rule, rule_of, with_rule, with_subcommand}
use Rattle.clap.specs.Simple.{new_shape}
use Rattle.clap.specs.declared.builder.arg.Arg.{Arg}
use Rattle.clap.specs.declared.builder.command.Command.{Command}
use Rattle.clap.specs.declared.builder.command.Command.TheViews.{out-Command}
use Rattle.clap.specs.declared.builder.value_parser.ValueParser.TheVariants.{Unsigned}
use Rattle.clap.specs.declared.builder.action.ArgAction.TheVariants.{Append, SetTrue}
use Rattle.vsync_text.specs.declared.udp_script.TheConstants.{ROUNDS}
use Rattle.vsync.specs.declared.member_options.TheConstants.{MOST_TICK, MOST_MERGE, MOST_QUORUM}
use Rattle.address.specs.declared.limits.TheConstants.{GREATEST_INCARNATION, GREATEST_NODE}

-- an argument that is required, and an option with a value
abbrev pub required_rule : Text → Rule
required_rule argument = record (new_rule argument) { required = true }

abbrev pub option_rule : Text → Rule
option_rule name = record (new_rule name) { long = Some name; value_names = 1 }

-- the same where it may stand there more than once, and where it is a number in a range
abbrev pub repeated : Rule → Rule
repeated rule = record rule { action = Some Append }

abbrev pub numeric : ℕ → ℕ → Rule → Rule
numeric low high rule = record rule { parser = Some (Unsigned low high) }

-- a flag with no value
abbrev pub flag_rule : Text → Rule
flag_rule name = record (new_rule name) { long = Some name; action = Some SetTrue }

-- the rule of an argument by what may be its value, by what stands there of it, and by its row
abbrev pub taking : Rule → Takes → Rule
taking rule One = rule
taking rule Several = repeated rule
taking rule (Number low high) = numeric low high rule

abbrev pub rule_by_form : Text → Form → Rule
rule_by_form name Flag = flag_rule name
rule_by_form name (Value _ takes) = taking (option_rule name) takes
rule_by_form name (Word takes) = taking (required_rule name) takes

abbrev pub rule_of_row : Row → Rule
rule_of_row row = rule_by_form row.name.now row.form

-- a command with these arguments
abbrev pub command_app : Text → List Rule → App
command_app name rules = fold with_rule (new_app name) rules

-- a command with the argument of a row as well; and the subcommand of a name and rows
abbrev pub with_row : App → Row → App
with_row app row = with_rule app (rule_of_row row)

abbrev pub app_of_subcommand : Subcommand → App
app_of_subcommand s = fold with_row (new_app s.name.now) s.arguments.now

-- clap's argument has this rule, and is of its own command alone
abbrev pub IsArg : Rule → Arg → Type 0
IsArg rule a = (rule_of a ≡ rule) × (a.global ≡ false)

-- clap reads the command in this way, and it has no argument for other commands
abbrev pub IsCommand : App → Command → Type 0
IsCommand app c = (app_of c ≡ app) × ((out-Command c).has_globals ≡ false)

-- a program with this command as a subcommand as well; and with one by its rows
abbrev pub with_command : App → App → App
with_command program command = with_subcommand program command.top

abbrev pub with_subcommand_row : App → Bor Subcommand → App
with_subcommand_row program s = with_command program (app_of_subcommand s.now)

-- a program that requires a subcommand, with none yet
abbrev pub program_of_subcommands : Text → App
program_of_subcommands name =
    record { top = record (new_shape name) { subcommand_required = true }; subs = [] }

-- `[--long] [--map] [--locks]`, which say what members keep
abbrev pub kept_rules : List Rule
kept_rules = flag_rule (codes "long") ∷ flag_rule (codes "map") ∷ flag_rule (codes "locks") ∷ []

-- `check [--long] [--map] [--locks] [--processes] TRACE..`
abbrev pub check_app : App
check_app = command_app (codes "check") (kept_rules ++ flag_rule (codes "processes") ∷ repeated (required_rule (codes "TRACE")) ∷ [])

-- `draw [--trace] [--packets] [--long] [--map] [--locks] INPUT`
abbrev pub draw_app : App
draw_app = command_app (codes "draw") (flag_rule (codes "trace") ∷ flag_rule (codes "packets") ∷ kept_rules ++ required_rule (codes "INPUT") ∷ [])

-- a subcommand with one argument, the path of a script, which is required
abbrev pub script_app : Text → App
script_app name = command_app name (required_rule (codes "SCRIPT") ∷ [])

-- the same with the flag `--long`
abbrev pub chats_app : Text → App
chats_app name = command_app name (required_rule (codes "SCRIPT") ∷ flag_rule (codes "long") ∷ [])

-- `settle [--long] [--deliver] SCRIPT`
abbrev pub settle_app : App
settle_app = command_app (codes "settle") (required_rule (codes "SCRIPT") ∷ flag_rule (codes "long") ∷ flag_rule (codes "deliver") ∷ [])

-- `udp CONFIG SCRIPT`
abbrev pub udp_app : App
udp_app = command_app (codes "udp") (required_rule (codes "CONFIG") ∷ required_rule (codes "SCRIPT") ∷ [])

-- `member CONFIG NODE INCARNATION ROUNDS [--contact ADDR] [--send TEXT]`
abbrev pub talk_rules : List Rule
talk_rules =
    required_rule (codes "CONFIG")
    ∷ numeric 1 GREATEST_NODE (required_rule (codes "NODE"))
    ∷ numeric 1 GREATEST_INCARNATION (required_rule (codes "INCARNATION"))
    ∷ numeric 0 ROUNDS (required_rule (codes "ROUNDS"))
    ∷ option_rule (codes "contact")
    ∷ option_rule (codes "send")
    ∷ []

-- `[--tick MS] [--merge TICKS] [--quorum N] [--incarnation-file FILE] [--say FILE] [--status FILE] [--key-file FILE]`,
-- `[--bind HOST] [--peer NODE=HOST].. [--http HOST:PORT]` and
-- `[--forever] [--leave] [--text] [--stats] [--long] [--map] [--locks] [--find] [--any-source] [--stable]`
abbrev pub option_rules : List Rule
option_rules =
    numeric 1 MOST_TICK (option_rule (codes "tick"))
    ∷ numeric 0 MOST_MERGE (option_rule (codes "merge"))
    ∷ numeric 1 MOST_QUORUM (option_rule (codes "quorum"))
    ∷ option_rule (codes "incarnation-file")
    ∷ option_rule (codes "say")
    ∷ option_rule (codes "status")
    ∷ option_rule (codes "key-file")
    ∷ option_rule (codes "bind")
    ∷ repeated (option_rule (codes "peer"))
    ∷ option_rule (codes "http")
    ∷ flag_rule (codes "forever")
    ∷ flag_rule (codes "leave")
    ∷ flag_rule (codes "text")
    ∷ flag_rule (codes "stats")
    ∷ kept_rules
    ++ flag_rule (codes "find")
    ∷ flag_rule (codes "any-source")
    ∷ flag_rule (codes "stable")
    ∷ []

-- `member` with both
abbrev pub member_app : App
member_app = command_app (codes "member") (talk_rules ++ option_rules)

-- `explain CODE`
abbrev pub explain_app : App
explain_app = command_app (codes "explain") (required_rule (codes "CODE") ∷ [])

-- `vsync` with each of its subcommands, in the order of its help
abbrev pub program_app : App
program_app = fold with_command (program_of_subcommands (codes "vsync"))
    (chats_app (codes "world")
    ∷ chats_app (codes "chat")
    ∷ chats_app (codes "packets")
    ∷ settle_app
    ∷ check_app
    ∷ draw_app
    ∷ script_app (codes "map")
    ∷ script_app (codes "locks")
    ∷ udp_app
    ∷ member_app
    ∷ explain_app
    ∷ [])
