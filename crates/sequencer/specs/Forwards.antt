-- A member's own messages that were sent in a view and not delivered there.
use Rattle.std.specs.Prelude.{◌≡◌, ℕ, ◌+◌, ◌-◌, ◌≤◌, List, [], ◌∷◌, ◌++◌, Option, Some, None, length, drop, nat_le, slice_get, if◌then◌else◌}
use Rattle.address.specs.declared.limits.TheConstants.{PAYLOAD, OUTSTANDING, GREATEST_NUMBER}
use Rattle.trace_props.specs.declared.event.Numbered.{Numbered}
use Rattle.address.specs.declared.refusal.Refusal.{Refusal}
use Rattle.address.specs.declared.refusal.Refusal.TheVariants.{Busy, Exhausted}

-- how many messages were sent, and those of them that are outstanding, by number
pub record ForwardsModel : Type 0 where
  pub sent : ℕ
  pub rest : List Numbered

-- the outstanding ones are the last that were sent, at most `OUTSTANDING` of them
pub record IsForwards (w : ForwardsModel) : Type 0 where
  pub some : length w.rest ≤ w.sent
  pub few : length w.rest ≤ OUTSTANDING
  pub last : w.sent ≤ GREATEST_NUMBER
  pub numbered : (k : ℕ) (f : Numbered) → slice_get w.rest k ≡ Some f → f.number + length w.rest ≡ w.sent + k + 1

-- each payload has at most `PAYLOAD` bytes
abbrev pub AreShort : List Numbered → Type 0
AreShort messages = (k : ℕ) (m : Numbered) → slice_get messages k ≡ Some m → length m.payload ≤ PAYLOAD

abbrev pub no_forwards : ForwardsModel
no_forwards = record { sent = 0; rest = [] }

-- one more message, under the next number
abbrev pub pushed : List ℕ → ForwardsModel → ForwardsModel
pushed x w = record { sent = w.sent + 1; rest = w.rest ++ record { number = w.sent + 1; payload = x } ∷ [] }

-- those with numbers up to n are outstanding no longer
abbrev pub delivered_to : ℕ → ForwardsModel → ForwardsModel
delivered_to n w = record { sent = w.sent; rest = drop (n - (w.sent - length w.rest)) w.rest }

-- the oldest of them is outstanding no longer
abbrev pub one_delivered : ForwardsModel → ForwardsModel
one_delivered w = record { sent = w.sent; rest = drop 1 w.rest }

-- why one more message is refused: the first of these that applies
abbrev pub push_refusal : ForwardsModel → Option Refusal
push_refusal w = if nat_le OUTSTANDING (length w.rest) then Some Busy else if nat_le GREATEST_NUMBER w.sent then Some Exhausted else None
