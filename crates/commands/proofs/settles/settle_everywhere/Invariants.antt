use Rattle.world.specs.Settled.{SettlesAt}
use Rattle.world.specs.Worlds.{IsLonger, shown}
use Rattle.commands.specs.Settled.{KeepsRules, AtEachNode}
use Rattle.commands.proofs.settles.settle_everywhere.Given as goal

-- the changes of view have completed up to this node
abbrev pub invariant-loop-before : goal.invariant-loop-before
invariant-loop-before g l =
    AtEachNode (SettlesAt g.R.Receiver.meaning) (shown l.initial.world) l.before (shown l.world)
    × IsLonger l.initial.world.history l.world.history
    × (KeepsRules g.R.Receiver.meaning (shown l.initial.world) → KeepsRules g.R.Receiver.meaning (shown l.world))
