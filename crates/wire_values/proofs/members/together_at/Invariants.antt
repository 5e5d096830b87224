use Rattle.std.proofs.Common.{◌≡◌, ◌-◌, [], length}
use Rattle.wire_values.specs.Lists.{together_at}
use Rattle.wire_values.proofs.members.together_at.Given as goal

-- what is left to read gives what was to be read
abbrev pub invariant-loop : goal.invariant-loop
invariant-loop l = record {
  read : together_at (l.count - l.counter) l.left l.together l.from ≡ together_at l.count l.roster.members [] l.fn.from;
  count : length l.together ≡ l.counter;
}
