use Rattle.std.proofs.Common.{Option, Some, None, refl, subst}
use Rattle.std.specs.Option.{option_map, ok_or}
use Rattle.toml.proofs.Views.{table_get}
use Rattle.udp_net.specs.Settings.{Reads}
use Rattle.udp_net.specs.declared.error.SettingsError.TheVariants.{Config}
use Rattle.udp_net.proofs.document.value_at.Goals as goal

found : {A B : Type 0} (f : A → B) (o : Option A) → Reads f (ok_or o Config) (option_map f o)
found f None = refl
found f (Some x) = refl

pub returns : goal.returns
returns c = rw c.ok_or.ensures.value (subst (Reads _ _) (table_get c.get.result c.args.key.now _ c.get.ensures.value) (found _ c.get.result))
