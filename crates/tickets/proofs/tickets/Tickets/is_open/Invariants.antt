use Rattle.std.proofs.Common.{◌≡◌, ◌==◌, drop}
use Rattle.std.specs.List.{list_any}
use Rattle.tickets.proofs.tickets.Tickets.is_open.Given as goal

-- it is not of those so far
abbrev pub invariant-loop-pending : goal.invariant-loop-pending
invariant-loop-pending l = list_any (λ o. o.ticket == l.ticket) l.pending-items ≡ list_any (λ o. o.ticket == l.ticket) (drop l.pending-index l.pending-items)
