use Rattle.std.proofs.Common.{◌≡◌, ◌≤◌, ◌+◌, ◌-◌, ℕ, length}
use Rattle.std.specs.Prelude.{slice_get, Some}
use Rattle.address.specs.declared.limits.TheConstants.{WINDOW}
use Rattle.wire_values.specs.Values.{Entry}
use Rattle.flush.specs.Cuts.{held_among}
use Rattle.flush.specs.Flushes.{group}
use Rattle.flush.proofs.flushing.Flush.cut.Given as goal

-- the entries so far are those of the numbers before this one
abbrev pub invariant-loop-entry : goal.invariant-loop-entry
invariant-loop-entry l = record {
  next : l.number ≡ l.base + length l.entries.items + 1;
  each : (j : ℕ) (e : Entry) → slice_get l.entries.items j ≡ Some e → held_among (group l.previous l.self.reports) (l.base + j + 1) ≡ Some e;
  near : l.number ≤ l.base + WINDOW + 1;
}

abbrev pub decreases-loop-entry : goal.decreases-loop-entry
decreases-loop-entry l = l.base + WINDOW + 1 - l.number
