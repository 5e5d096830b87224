use Rattle.std.proofs.Common.{◌≡◌, length}
use Rattle.keyed_state.specs.Entries.{key_cmp}
use Rattle.keyed_state.proofs.entries.key_order.Given as goal

-- what is left decides
abbrev pub invariant-loop-first : goal.invariant-loop-first
invariant-loop-first l = key_cmp l.key l.other ≡ key_cmp l.initial.key l.initial.other

abbrev pub decreases-loop-first : goal.decreases-loop-first
decreases-loop-first l = length l.key
