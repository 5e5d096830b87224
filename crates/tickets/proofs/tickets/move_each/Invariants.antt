use Rattle.std.proofs.Common.{◌≡◌, map, take, drop, ◌++◌}
use Rattle.tickets.specs.Ledger.{moved}
use Rattle.tickets.proofs.tickets.move_each.Given as goal

-- those so far are moved, and the rest are as they were
abbrev pub invariant-loop-one : goal.invariant-loop-one
invariant-loop-one l = l.pending ≡ map (moved l.change) (take l.one-index l.fn.pending) ++ drop l.one-index l.fn.pending
