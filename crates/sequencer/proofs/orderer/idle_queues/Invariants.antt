use Rattle.std.proofs.Common.{◌≡◌, map, take}
use Rattle.sequencer.specs.Queues.{idle}
use Rattle.sequencer.proofs.orderer.idle_queues.Given as goal

abbrev pub invariant-loop-member : goal.invariant-loop-member
invariant-loop-member l = l.queues.items ≡ map idle (take l.member-index l.members)
