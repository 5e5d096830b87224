use Rattle.std.proofs.Common.{◌≡◌, ◌-◌}
use Rattle.big_endian.specs.Reading.{list_at}
use Rattle.keyed_state.specs.States.{entry_at}
use Rattle.big_endian.proofs.ListsRead.{with_front}
use Rattle.keyed_state.proofs.decoding.some_entries.Given as goal

-- the entries so far, and those that are read from what is left, are all
abbrev pub invariant-loop : goal.invariant-loop
invariant-loop g l = with_front l.entries.items (list_at (entry_at g.V.Kept.form) (l.count - l.counter) l.from) ≡ list_at (entry_at g.V.Kept.form) l.count l.fn.from
