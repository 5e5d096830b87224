use Rattle.std.proofs.Common.{◌≡◌, ◌+◌, ◌-◌, ◌≤◌, ◌++◌, take, length, vec_len, vec_capacity}
use Rattle.std.specs.List.{filter_map}
use Rattle.tickets.specs.Ledger.{ended_by}
use Rattle.tickets.proofs.tickets.end_each.Given as goal

-- the ends of those so far are noted, and there is room for the others
abbrev pub invariant-loop-one : goal.invariant-loop-one
invariant-loop-one l = record {
  ended : l.ended.items ≡ l.fn.ended.items ++ filter_map (ended_by l.change) (take l.one-index l.fn.pending.items);
  room : vec_len l.ended + (length l.fn.pending.items - l.one-index) ≤ vec_capacity l.ended;
  more : vec_capacity l.fn.ended ≤ vec_capacity l.ended;
}
