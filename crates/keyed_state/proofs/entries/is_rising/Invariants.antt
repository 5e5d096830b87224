use Rattle.std.proofs.Common.{◌≡◌, ◌-◌, drop}
use Rattle.keyed_state.specs.Entries.{rises}
use Rattle.keyed_state.proofs.entries.is_rising.Given as goal

-- all rise where those from the newest on do
abbrev pub invariant-loop-i : goal.invariant-loop-i
invariant-loop-i g l = rises l.entries ≡ rises (drop (l.i - 1) l.entries)
