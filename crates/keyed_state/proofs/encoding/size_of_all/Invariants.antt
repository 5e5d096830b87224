use Rattle.std.proofs.Common.{◌≡◌, ◌≤◌, ◌+◌, take, drop}
use Rattle.std.specs.List.{sum_by}
use Rattle.address.specs.declared.limits.TheConstants.{STATE}
use Rattle.keyed_state.specs.States.{entry_size, state_size}
use Rattle.keyed_state.proofs.encoding.size_of_all.Given as goal

-- the size of the entries so far, and that of the others beside it
abbrev pub invariant-loop-entry : goal.invariant-loop-entry
invariant-loop-entry g l = record {
  size : l.size ≡ state_size g.V.Kept.form (take l.entry-index l.entries);
  fits : l.size + sum_by (entry_size g.V.Kept.form) (drop l.entry-index l.entries) ≤ STATE;
}
