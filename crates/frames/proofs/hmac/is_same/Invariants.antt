use Rattle.std.proofs.Common.{◌≡◌, ◌↔◌, ◌≤◌, take}
use Rattle.frames.proofs.hmac.is_same.Given as goal

-- none differs so far exactly where the texts agree so far
abbrev pub invariant-loop-i : goal.invariant-loop-i
invariant-loop-i l = record { bound : l.differing ≤ l.i; same : (l.differing ≡ 0) ↔ (take l.i l.one ≡ take l.i l.other) }
