use Rattle.std.proofs.Common.{◌≡◌, ◌≤◌, length}
use Rattle.vsync_text.specs.Numbers.{value_of, value_after}
use Rattle.vsync_text.specs.Fronts.{digits_of, behind_digits}
use Rattle.vsync_text.proofs.Numerals.{IsLed}
use Rattle.vsync_text.proofs.fronts.number_in_front.Given as goal

-- the value so far goes on with the digits that are left; it is 0 before the first of them alone
abbrev pub invariant-loop-digit : goal.invariant-loop-digit
invariant-loop-digit l = record {
  value : value_of (digits_of l.text) ≡ value_after l.value (digits_of l.rest);
  behind : behind_digits l.text ≡ behind_digits l.rest;
  first : l.value ≡ 0 → l.rest ≡ l.text;
  led : 1 ≤ l.value → IsLed (digits_of l.text);
}

abbrev pub decreases-loop-digit : goal.decreases-loop-digit
decreases-loop-digit l = length l.rest
