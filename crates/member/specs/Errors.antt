-- The numbers of a member's errors.
use Rattle.std.specs.Prelude.{ℕ, Bool, false}
use Rattle.address.specs.declared.refusal.Refusal.{Refusal}
use Rattle.address.specs.declared.refusal.Refusal.TheVariants.{Closed, Memory}
use Rattle.address.specs.Refusals as refusals
use Rattle.wire_values.specs.Reading.{error_number}
use Rattle.membership.specs.declared.stop.Stop.{Stop}
use Rattle.membership.specs.declared.stop.Stop.TheVariants as stop
use Rattle.member.specs.declared.error.Error.{Error}
use Rattle.member.specs.declared.error.Error.TheVariants.{Refused, Wire}

abbrev pub number_of : Error → ℕ
number_of (Refused r) = refusals.number_of r
number_of (Wire e) = error_number e

-- memory was refused
abbrev pub is_memory : Error → Bool
is_memory (Refused r) = refusals.is_memory r
is_memory (Wire e) = false

-- it has ended
abbrev pub is_closed : Error → Bool
is_closed (Refused r) = refusals.is_closed r
is_closed (Wire e) = false

-- the answer of a step that ended it
abbrev pub stopped : Stop → Refusal
stopped stop.Memory = Memory
stopped stop.Unreadable = Closed
