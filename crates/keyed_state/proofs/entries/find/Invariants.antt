use Rattle.std.proofs.Common.{◌-◌, ◌≤◌, take, length}
use Rattle.keyed_state.proofs.KeysHavePlaces.{AllBelow, StopsAt}
use Rattle.keyed_state.proofs.entries.find.Given as goal

abbrev pub decreases-loop-low : goal.decreases-loop-low
decreases-loop-low g l = l.high - l.low

-- the key is above all entries before the first place, and below the one at the last
abbrev pub invariant-loop-low : goal.invariant-loop-low
invariant-loop-low g l = record {
  within : l.high ≤ length l.entries;
  order : l.low ≤ l.high;
  below : AllBelow l.key (take l.low l.entries);
  stops : StopsAt l.key l.entries l.high;
}
