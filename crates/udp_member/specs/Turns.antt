-- What a runner hands to its channel, and what the channel does by it.
use Rattle.std.specs.Prelude.{◌≡◌, ⊤, ℕ, Bool, true, not, List, [], ◌∷◌, ◌++◌, Option, None, Some, Ok, Err, IfSome}
use Rattle.std.specs.Option.{option_map_or}
use Rattle.address.specs.Ids.{Address}
use Rattle.state_transfer.specs.Meanings.{Meaning}
use Rattle.member.specs.declared.error.Error.{Error}
use Rattle.member.specs.declared.input.Input.TheVariants as input
use Rattle.channel.specs.Errors.{is_end}
use Rattle.member.specs.Watching.{watched}
use Rattle.channel.specs.declared.stage.Stage.{Stage}
use Rattle.channel.specs.Channels.{ChannelModel, left_by, member_in, heard_at}
use Rattle.channel.specs.Calls.{Calls, CallsLent}
use Rattle.udp_net.specs.declared.net.Received.TheVariants as received
use Rattle.udp_net.specs.Logs.{Log, Lists, receiving}
use Rattle.udp_member.specs.RunnerNotes.{RunnerNotes, noted}

-- what a runner hands in: a datagram that came, a suspicion, a tick, a hint of whom it seeks
pub data Handed : Type 0 where
  Datagram : List ℕ → Handed
  Suspect : Address → Handed
  Tick : Handed
  Hint : Address → Handed

-- one call of the channel
abbrev pub CallsBy : {S : Type 0} → Meaning S → Handed → ChannelModel S → Option Error → ChannelModel S → Type 0
CallsBy meaning (Datagram bytes) old answer new = CallsLent meaning input.Datagram bytes old answer new
CallsBy meaning (Suspect p) old answer new = Calls meaning (input.Suspect p) old answer new
CallsBy meaning Tick old answer new = Calls meaning input.Tick old answer new
CallsBy meaning (Hint p) old answer new = Calls meaning (input.MergeHint p) old answer new

-- a turn: one call of the channel, answered so; an error leaves what it leaves
pub record Turn {S : Type 0} (meaning : Meaning S) (handed : Handed) (old : ChannelModel S) (answer : Option Error) (new : ChannelModel S) : Type 0 where
  pub calls : CallsBy meaning handed old answer new
  pub left : IfSome answer (λ e. new ≡ left_by e old)

-- after any answer but 6 and 7 the round goes on
abbrev pub goes_on : Option Error → Bool
goes_on None = true
goes_on (Some e) = not (is_end e)

-- what is noted of it, by the answer to it: of a datagram, what it was or that it was of no use; of all else nothing
abbrev pub noted_of : {S : Type 0} → Handed → ChannelModel S → Option Error → RunnerNotes → RunnerNotes
noted_of (Datagram bytes) channel None notes = noted (Ok (heard_at bytes channel)) notes
noted_of (Datagram bytes) channel (Some e) notes = noted (Err e) notes
noted_of (Suspect p) channel answer notes = notes
noted_of Tick channel answer notes = notes
noted_of (Hint p) channel answer notes = notes

-- ---- a net, a channel, the count of failed receives, and what is noted

pub record Driven (N S : Type 0) : Type 0 where
  pub net : N
  pub channel : ChannelModel S
  pub faults : ℕ
  pub notes : RunnerNotes

abbrev pub driven : {N S : Type 0} → N → ChannelModel S → ℕ → RunnerNotes → Driven N S
driven net channel faults notes = record { net = net; channel = channel; faults = faults; notes = notes }

-- a datagram is what a receive gave; all else comes from the runner
abbrev pub Comes : {N : Type 0} → (N → Option Log) → (N → ℕ) → Handed → N → N → Type 0
Comes log failed (Datagram bytes) old new = Lists (log old) (receiving (received.Datagram bytes)) (log new) × (failed new ≡ failed old)
Comes log failed (Suspect p) old new = new ≡ old
Comes log failed Tick old new = new ≡ old
Comes log failed (Hint p) old new = new ≡ old

-- what is handed in comes, and there is a turn by it; nothing is offered
pub record Takes {N S : Type 0} (log : N → Option Log) (failed : N → ℕ) (meaning : Meaning S) (handed : Handed) (old : Driven N S) (answer : Option Error)
    (new : Driven N S) : Type 0 where
  pub comes : Comes log failed handed old.net new.net
  pub turn : Turn meaning handed old.channel answer new.channel
  pub faults : new.faults ≡ old.faults
  pub notes : new.notes ≡ noted_of handed old.channel answer old.notes

-- these are handed in, one after another, each of them one that may be, and none is answered 6 or 7
pub data TakesAll {N S X : Type 0} (log : N → Option Log) (failed : N → ℕ) (meaning : Meaning S) (as_handed : X → Handed) (may : X → Type 0) (old : Driven N S)
    : List X → Driven N S → Type 0 where
  Nothing : TakesAll log failed meaning as_handed may old [] old
  Next : (xs : List X) (mid : Driven N S) (x : X) (answer : Option Error) (new : Driven N S) → TakesAll log failed meaning as_handed may old xs mid
      → may x → Takes log failed meaning (as_handed x) mid answer new → goes_on answer ≡ true → TakesAll log failed meaning as_handed may old (xs ++ x ∷ []) new

-- any datagram may be
abbrev pub Any : List ℕ → Type 0
Any bytes = ⊤

-- ---- who is watched

-- whom the channel watches; nobody before a connect and after its end
abbrev pub watched_at : {S : Type 0} → Stage S → List Address
watched_at stage = option_map_or watched (member_in stage) []
