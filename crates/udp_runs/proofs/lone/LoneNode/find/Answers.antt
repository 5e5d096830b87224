use Rattle.std.proofs.Common.{refl}
use Rattle.std.specs.Option.{option_copied}
use Rattle.law_runners.specs.Runs.{Wait}
use Rattle.udp_runs.proofs.NodesTell.{quiet-by, quiet-none, quiet-then}
use Rattle.udp_runs.proofs.lone.LoneNode.find.Goals as goal

pub returns-then-self-clause-drives : goal.returns-then-self-clause-drives
returns-then-self-clause-drives g c start later = quiet-none _ _ _ _ _ _

pub returns-in-Stay-clause-drives : goal.returns-in-Stay-clause-drives
returns-in-Stay-clause-drives g c start later = quiet-by _ _ _ _ c.args.settings.now.group _ _ _ (Wait _ (rw c.net.ensures.value at c.say.ensures) refl) refl tt

pub returns-in-Again-clause-drives : goal.returns-in-Again-clause-drives
returns-in-Again-clause-drives g c start later = quiet-by _ _ _ _ c.args.settings.now.group _ _ _ (Wait _ (rw c.net.ensures.value at c.say.ensures) refl) refl tt

pub returns-clause-drives : goal.returns-clause-drives
returns-clause-drives g c start later = quiet-then _ _ _ _ _ _ _ _ (quiet-by _ _ _ _ c.args.settings.now.group _ _ _ (Wait _ (rw c.net.ensures.value at c.say.ensures) refl) refl tt) (c.say_nothing-said.ensures.drives (option_copied c.args.self.now.once) start later)
