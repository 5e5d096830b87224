use Rattle.std.proofs.Common.{◌≡◌, ◌-◌, [], length}
use Rattle.wire_values.specs.Lists.{members_at}
use Rattle.wire_values.proofs.MemberLaws.{Sound}
use Rattle.wire_values.proofs.members.members_at.Given as goal

-- what is left to read gives what was to be read
abbrev pub invariant-loop : goal.invariant-loop
invariant-loop l = record {
  read : members_at l.id (l.count - l.counter) l.members l.from ≡ members_at l.id l.count [] l.fn.from;
  count : length l.members ≡ l.counter;
  sound : Sound l.id l.members;
}
