use Rattle.std.proofs.Common.{◌≡◌, ◌≤◌, ◌-◌}
use Rattle.address.specs.declared.limits.TheConstants.{GREATEST_NUMBER}
use Rattle.wire_values.specs.Reading.{rest_of}
use Rattle.wire_values.specs.Lists.{held_at}
use Rattle.big_endian.specs.Spelled.{IsBytes}
use Rattle.wire_values.proofs.entries.held_at.Given as goal

-- behind what is left stands what is behind all
abbrev pub invariant-loop : goal.invariant-loop
invariant-loop l = record {
  read : rest_of (held_at l.stable l.delivered l.last (l.count - l.counter) l.from) ≡ rest_of (held_at l.stable l.delivered l.stable l.count l.fn.from);
  small : l.last ≤ GREATEST_NUMBER;
  fits : IsBytes l.bytes;
}
