-- The numbers of the refusals.
use Rattle.std.specs.Prelude.{ℕ, Bool, true, false}
use Rattle.address.specs.declared.refusal.Refusal.{Refusal}
use Rattle.address.specs.declared.refusal.Refusal.TheVariants.{NotConnected, Blocked, Busy, TooLong, AlreadyConnected, Closed, Memory, Exhausted, BadName}

abbrev pub number_of : Refusal → ℕ
number_of NotConnected = 1
number_of Blocked = 2
number_of Busy = 3
number_of TooLong = 4
number_of AlreadyConnected = 5
number_of Closed = 6
number_of Memory = 7
number_of Exhausted = 8
number_of BadName = 9

-- memory was refused
abbrev pub is_memory : Refusal → Bool
is_memory NotConnected = false
is_memory Blocked = false
is_memory Busy = false
is_memory TooLong = false
is_memory AlreadyConnected = false
is_memory Closed = false
is_memory Memory = true
is_memory Exhausted = false
is_memory BadName = false

-- it has ended
abbrev pub is_closed : Refusal → Bool
is_closed NotConnected = false
is_closed Blocked = false
is_closed Busy = false
is_closed TooLong = false
is_closed AlreadyConnected = false
is_closed Closed = true
is_closed Memory = false
is_closed Exhausted = false
is_closed BadName = false
