use Rattle.std.proofs.Common.{◌≡◌, true, take}
use Rattle.keyed_state.specs.States.{are_up_to}
use Rattle.keyed_state.proofs.decoding.are_up_to.Given as goal

-- none of those so far is above the last
abbrev pub invariant-loop-entry : goal.invariant-loop-entry
invariant-loop-entry g l = are_up_to g.V.Kept.form l.last (take l.entry-index l.entries) ≡ true
