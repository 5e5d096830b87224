use Rattle.std.proofs.Common.{◌≡◌, ◌-◌}
use Rattle.wire_values.specs.Reading.{list_at, rest_of}
use Rattle.wire_values.specs.Fields.{entry_at}
use Rattle.big_endian.specs.Spelled.{IsBytes}
use Rattle.wire_values.proofs.entries.items_at.Given as goal

-- behind what is left stands what is behind all
abbrev pub invariant-loop : goal.invariant-loop
invariant-loop l = record {
  read : rest_of (list_at entry_at (l.count - l.counter) l.from) ≡ rest_of (list_at entry_at l.count l.fn.from);
  fits : IsBytes l.bytes;
}
