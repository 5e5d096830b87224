use Rattle.std.proofs.Common.{◌≡◌, drop}
use Rattle.std.specs.Vec.{vec_capacity}
use Rattle.sequencer.proofs.forwards.let_go.Given as goal

-- as many are gone as there were turns, and the room stays
abbrev pub invariant-loop-gone : goal.invariant-loop-gone
invariant-loop-gone l = (l.rest.items ≡ drop l.gone l.fn.rest.items) × (vec_capacity l.rest ≡ vec_capacity l.fn.rest)
