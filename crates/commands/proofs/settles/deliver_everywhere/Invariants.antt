use Rattle.world.specs.Settled.{DeliversAt}
use Rattle.world.specs.Worlds.{IsLonger, shown}
use Rattle.commands.specs.Settled.{KeepsRules, AtEachNode}
use Rattle.commands.proofs.settles.deliver_everywhere.Given as goal

-- the calm views have delivered everything up to this node
abbrev pub invariant-loop-before : goal.invariant-loop-before
invariant-loop-before g l =
    AtEachNode (DeliversAt g.R.Receiver.meaning) (shown l.initial.world) l.before (shown l.world)
    × IsLonger l.initial.world.history l.world.history
    × (KeepsRules g.R.Receiver.meaning (shown l.initial.world) → KeepsRules g.R.Receiver.meaning (shown l.world))
