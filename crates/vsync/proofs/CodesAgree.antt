-- The codes of explanations are those that commands print.
use Rattle.std.proofs.Common.{◌≡◌, refl}
use Rattle.std.specs.Fmt.{decimal, digits}
use Rattle.trace_props.specs.declared.verdict.Rule.{Rule}
use Rattle.trace_props.specs.declared.verdict.Rule.TheVariants as rule
use Rattle.udp_net.specs.Errors.{settings_number, bind_number}
use Rattle.udp_net.specs.declared.error.SettingsError.TheVariants as settings
use Rattle.udp_net.specs.declared.error.BindError.TheVariants as bind
use Rattle.commands.specs.Checks.{rule_code}
use Rattle.vsync.specs.Topics.{code_of}
use Rattle.vsync.specs.declared.topic.Topic.TheVariants.{Rule as OfRule, Settings, Socket}

pub rules : (r : Rule) → rule_code r ≡ code_of (OfRule r)
rules rule.WellPlaced = refl
rules rule.RisingViews = refl
rules rule.SoundMessages = refl
rules rule.OneOrder = refl
rules rule.SameNext = refl
rules rule.Together = refl
rules rule.HandedBack = refl
rules rule.StateOfEntry = refl

-- settings that are none, or do not list the node; and a socket that cannot be bound
pub net : (decimal (settings_number settings.Config) ≡ code_of Settings) × (decimal (bind_number bind.Config) ≡ code_of Settings) × (decimal (bind_number bind.Bind) ≡ code_of Socket)
unfolding digits
net = (refl, refl, refl)
