use Rattle.std.proofs.Common.{◌≡◌, [], length}
use Rattle.address.specs.declared.limits.TheConstants.{OUTSTANDING}
use Rattle.sequencer.specs.Slots.{numbered}
use Rattle.sequencer.proofs.queue.empty_slots.Given as goal

abbrev pub invariant-loop-many : goal.invariant-loop-many
invariant-loop-many l = record { empty : numbered 0 l.slots.items ≡ []; many : length l.slots.items ≡ l.many; room : l.slots.capacity ≡ OUTSTANDING }
