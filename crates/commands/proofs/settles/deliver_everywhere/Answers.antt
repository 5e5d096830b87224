use Rattle.std.proofs.Common.{◌≡◌, ℕ, suc, ◌+◌, subst, arith}
use Rattle.world.specs.Settled.{DeliversAt}
use Rattle.world.specs.Worlds.{shown}
use Rattle.commands.specs.Settled.{AtEachNode}
use Rattle.commands.specs.Settled.AtEachNode.{Nowhere, More}
use Rattle.commands.proofs.SettledRuns.{longer-same, longer-then}
use Rattle.commands.proofs.settles.deliver_everywhere.Goals as goal

pub loop-before-init : goal.loop-before-init
loop-before-init g c = (Nowhere, longer-same c.args.world.now.history, λ kept. kept)

pub loop-before-preserved : goal.loop-before-preserved
loop-before-preserved g c =
    let e : suc c.loop-before.before ≡ c.loop-before.before + 1 = omega arith in (
      subst (λ (k : ℕ). AtEachNode (DeliversAt g.R.Receiver.meaning) (shown c.args.world.now) k (shown c.deliver_at.new.world)) e
          (More c.loop-before.before (shown c.loop-before.world) (shown c.deliver_at.new.world) c.loop-before.invariant.0 c.in_ok-deliver_at.ensures.ok),
      longer-then c.args.world.now.history c.loop-before.world.history c.deliver_at.new.world.history c.loop-before.invariant.1 c.deliver_at.ensures.longer,
      λ kept. c.deliver_at.ensures.rules (c.loop-before.invariant.2 kept),
    )
