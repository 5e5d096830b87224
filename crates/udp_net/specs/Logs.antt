-- What a net lists of itself, and how that goes on.
use Rattle.std.specs.Prelude.{◌≡◌, ⊤, ℕ, ◌+◌, List, [], ◌∷◌, ◌++◌, take, min, Option, None, Some, Result, Ok, Err}
use Rattle.std.specs.Option.{IsSomeAnd}
use Rattle.udp_net.specs.declared.error.Fault.{Fault}
use Rattle.udp_net.specs.declared.net.Received.{Received}
use Rattle.udp_net.specs.declared.net.Received.TheVariants.{Datagram, Nothing, Failed}

-- a datagram that a net was offered: for which node, and its bytes
pub record Offer : Type 0 where
  pub node : ℕ
  pub bytes : List ℕ

-- what happens at a net: a receive is answered, or it is offered a datagram
pub data NetEvent : Type 0 where
  Answered : Received → NetEvent
  Offered : Offer → NetEvent

-- what happened at a net since it was made, in the order in which it did
abbrev pub Log : Type 0
Log = List NetEvent

-- a net lists nothing, or what it listed before and this more
abbrev pub Lists : Option Log → (Log → Log) → Option Log → Type 0
Lists old more None = ⊤
Lists old more (Some l) = IsSomeAnd old (λ o. l ≡ more o)

-- this happened too
abbrev pub listing : NetEvent → Log → Log
listing event l = l ++ event ∷ []

-- it was offered one more
abbrev pub offering : ℕ → List ℕ → Log → Log
offering node bytes l = listing (Offered (record { node = node; bytes = bytes })) l

-- one more receive was answered
abbrev pub receiving : Received → Log → Log
receiving answer l = listing (Answered answer) l

-- what a receive is listed as, by its answer: its datagram lies at the front of the buffer
abbrev pub answer_of : Result (Option ℕ) Fault → List ℕ → Received
answer_of (Ok (Some n)) buffer = Datagram (take n buffer)
answer_of (Ok None) buffer = Nothing
answer_of (Err e) buffer = Failed

-- one more failed receive; the count stays at 2^64 - 1
abbrev pub one_more : ℕ → ℕ
one_more n = min (n + 1) 18446744073709551615

abbrev pub failures_after : {A : Type 0} → ℕ → Result A Fault → ℕ
failures_after n (Ok x) = n
failures_after n (Err e) = one_more n
