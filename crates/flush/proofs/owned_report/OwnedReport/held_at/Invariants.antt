use Rattle.std.proofs.Common.{◌≡◌, length}
use Rattle.wire_values.specs.Values.{held_at}
use Rattle.flush.proofs.owned_report.OwnedReport.held_at.Given as goal

-- the entries that are left decide
abbrev pub invariant-loop-place : goal.invariant-loop-place
invariant-loop-place l = record { same : held_at l.number l.left ≡ held_at l.number l.self.held }

abbrev pub decreases-loop-place : goal.decreases-loop-place
decreases-loop-place l = length l.left
