-- A net in memory: what it lists, which of its calls fail, and what it gives.
use Rattle.std.specs.Prelude.{◌≡◌, ℕ, Bool, false, nat_eq, List, [], ◌∷◌, length, take, map, min, Option, None, Some, Result, Ok, Err, if◌then◌else◌}
use Rattle.udp_net.specs.declared.error.Fault.{Fault}
use Rattle.udp_net.specs.Logs.{NetEvent, Log, one_more}
use Rattle.udp_net.specs.Logs.NetEvent.{Answered, Offered}
use Rattle.memory_nets.specs.declared.memory_net.Offered as memory
use Rattle.memory_nets.specs.declared.memory_net.Listed.{Listed}
use Rattle.memory_nets.specs.declared.memory_net.Listed.TheVariants as listed

-- what waits, what it lists, the numbers of its calls, which of them fail, and what failed
pub record MemoryModel : Type 0 where
  pub waiting : List (List ℕ)
  pub listed : List Listed
  pub is_listed : Bool
  pub receives : ℕ
  pub failing_receive : Option ℕ
  pub sends : ℕ
  pub failing_send : Option ℕ
  pub failures : ℕ
  pub unsent : ℕ

-- what it lists, as an event of a net: whether a send failed is left out
abbrev pub event_of : Listed → NetEvent
event_of (listed.Answered answer) = Answered answer
event_of (listed.Offered o) = Offered (record { node = o.node; bytes = o.bytes })

-- the datagram that it was offered, if it was
abbrev pub offered_in : Listed → Option memory.Offered
offered_in (listed.Answered answer) = None
offered_in (listed.Offered o) = Some o

abbrev pub log_of : MemoryModel → Option Log
log_of n = if n.is_listed then Some (map event_of n.listed) else None

-- whether the next call is the one that is to fail
abbrev pub fails_next : Option ℕ → ℕ → Bool
fails_next None calls = false
fails_next (Some number) calls = nat_eq number (one_more calls)

-- one more datagram that could not be sent, if it could not
abbrev pub unsent_after : Bool → ℕ → ℕ
unsent_after is_lost n = if is_lost then one_more n else n

-- the first that waits is given, as much of it as there is room for, or none waits; a receive that fails takes none
abbrev pub GivesFirst : List (List ℕ) → Result (Option ℕ) Fault → List ℕ → List (List ℕ) → Type 0
GivesFirst old (Err e) buffer new = new ≡ old
GivesFirst [] (Ok None) buffer new = new ≡ []
GivesFirst [] (Ok (Some n)) buffer new = ⊥
GivesFirst (first ∷ rest) (Ok None) buffer new = ⊥
GivesFirst (first ∷ rest) (Ok (Some n)) buffer new = (n ≡ min (length first) (length buffer)) × (take n buffer ≡ take n first) × (new ≡ rest)
