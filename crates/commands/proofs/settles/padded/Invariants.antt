use Rattle.std.proofs.Common.{◌≡◌, ◌≤◌, ◌-◌, ◌++◌, length, max, replicate}
use Rattle.commands.proofs.settles.padded.Given as goal

-- so many zeros are behind the lines
abbrev pub invariant-loop : goal.invariant-loop
invariant-loop l = (l.all.items ≡ l.lines ++ replicate (l.counter - length l.lines) 0) × (length l.lines ≤ l.counter) × (l.counter ≤ max l.count (length l.lines))
