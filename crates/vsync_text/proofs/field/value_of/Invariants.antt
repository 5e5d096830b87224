use Rattle.std.proofs.Common.{◌≡◌, ◌≤◌, drop}
use Rattle.vsync_text.specs.Numbers.{value_of, value_after}
use Rattle.vsync_text.proofs.field.value_of.Given as goal

-- the value so far goes on with the digits that are left
abbrev pub invariant-loop-digit : goal.invariant-loop-digit
invariant-loop-digit l = (l.value ≤ l.high) × (value_of l.digits ≡ value_after l.value (drop l.digit-index l.digits))
