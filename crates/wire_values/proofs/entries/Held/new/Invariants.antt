use Rattle.std.proofs.Common.{◌≡◌, ◌-◌}
use Rattle.wire_values.specs.Reading.{list_at, rest_of}
use Rattle.wire_values.specs.Fields.{placed_at}
use Rattle.wire_values.proofs.entries.Held.new.Given as goal

-- behind what is left stands what is behind all
abbrev pub invariant-loop : goal.invariant-loop
invariant-loop l = rest_of (list_at placed_at (l.count - l.counter) l.ahead) ≡ rest_of (list_at placed_at l.count l.bytes)
