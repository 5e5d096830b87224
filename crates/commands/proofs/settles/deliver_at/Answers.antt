use Rattle.std.proofs.Common.{◌≡◌, ℕ, OnOk, rules, subst}
use Rattle.world.specs.Settled.{DeliversAt}
use Rattle.world.specs.Worlds.{shown}
use Rattle.commands.proofs.settles.deliver_at.Goals as goal

pub returns-in-Some-clause-ok : goal.returns-in-Some-clause-ok
returns-in-Some-clause-ok g c =
    let same : c.in-Some.node ≡ c.args.number = search rules in
    subst (λ (n : ℕ). OnOk c.deliver_led.result (DeliversAt g.R.Receiver.meaning n (shown c.args.world.now) (shown c.deliver_led.new.world))) same c.deliver_led.ensures.ok
