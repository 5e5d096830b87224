use Rattle.std.specs.List.{AllByRecursion}
use Rattle.frames.specs.Nets.{IsFresh}
use Rattle.frames.proofs.framed_net.outlets_to.Given as goal

abbrev pub invariant-loop-node : goal.invariant-loop-node
invariant-loop-node l = AllByRecursion IsFresh l.outlets.items
