use Rattle.std.proofs.Common.{◌≡◌}
use Rattle.frames.proofs.partial.Partials.begin.Given as goal

abbrev pub invariant-loop-place : goal.invariant-loop-place
invariant-loop-place l = l.self-inside.partials.items ≡ l.fn.self
