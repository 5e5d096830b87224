use Rattle.std.proofs.Common.{◌≡◌, ◌-◌}
use Rattle.big_endian.specs.Reading.{list_at}
use Rattle.big_endian.specs.Reading.{address_at}
use Rattle.big_endian.proofs.ListsRead.{with_front}
use Rattle.lock_table.proofs.decoding.some_addresses.Given as goal

-- the entries so far, and those that are read from what is left, are all
abbrev pub invariant-loop : goal.invariant-loop
invariant-loop l = with_front l.list.items (list_at address_at (l.count - l.counter) l.from) ≡ list_at address_at l.count l.fn.from
