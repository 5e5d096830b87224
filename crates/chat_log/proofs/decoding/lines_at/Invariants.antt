use Rattle.std.proofs.Common.{◌≡◌, ◌-◌}
use Rattle.big_endian.specs.Reading.{list_at}
use Rattle.chat_log.specs.Encoding.{line_at}
use Rattle.big_endian.proofs.ListsRead.{with_front}
use Rattle.chat_log.proofs.decoding.lines_at.Given as goal

-- the lines so far, and those that are read from what is left, are all
abbrev pub invariant-loop : goal.invariant-loop
invariant-loop l = with_front l.lines.items (list_at line_at (l.count - l.counter) l.from) ≡ list_at line_at l.count l.fn.from
