use Rattle.std.proofs.Common.{◌≡◌, ◌≤◌, ◌+◌, ◌++◌, take, drop, vec_len, vec_capacity}
use Rattle.std.specs.List.{flat_map, sum_by, AllByRecursion}
use Rattle.address.specs.declared.limits.TheConstants.{STATE}
use Rattle.keyed_state.specs.States.{IsEntry, entry_bytes, entry_size}
use Rattle.keyed_state.proofs.encoding.put_entries.Given as goal

-- the entries so far are put, and there is room for the others, which are short
abbrev pub invariant-loop-entry : goal.invariant-loop-entry
invariant-loop-entry g l = record {
  put : l.out.items ≡ l.fn.out.items ++ flat_map (entry_bytes g.V.Kept.form) (take l.entry-index l.entries);
  room : vec_len l.out + sum_by (entry_size g.V.Kept.form) (drop l.entry-index l.entries) ≤ vec_capacity l.out;
  grown : vec_capacity l.fn.out ≤ vec_capacity l.out;
  short : sum_by (entry_size g.V.Kept.form) (drop l.entry-index l.entries) ≤ STATE;
  left : AllByRecursion (IsEntry g.V.Kept.form) (drop l.entry-index l.entries);
}
