use Rattle.std.proofs.Common.{◌≡◌, not, drop}
use Rattle.std.specs.List.{find}
use Rattle.tickets.specs.Ledger.{is_sent}
use Rattle.tickets.proofs.tickets.Tickets.next.Given as goal

-- all so far are sent
abbrev pub invariant-loop-pending : goal.invariant-loop-pending
invariant-loop-pending l = find (λ o. not (is_sent o.stage)) l.pending-items ≡ find (λ o. not (is_sent o.stage)) (drop l.pending-index l.pending-items)
