-- A round of a runner.
use Rattle.std.specs.Prelude.{◌≡◌, ℕ, ◌<◌, Bool, true, false, length, filter, List, [], ◌∷◌, Option, None, Some, Result, Ok, Err, ◌⊎◌}
use Rattle.address.specs.Ids.{Address}
use Rattle.state_transfer.specs.Meanings.{Meaning}
use Rattle.member.specs.declared.error.Error.{Error}
use Rattle.channel.specs.Errors.{is_end}
use Rattle.channel.specs.Channels.{ChannelModel}
use Rattle.udp_net.specs.declared.net.Received.{Received}
use Rattle.udp_net.specs.declared.net.Received.TheVariants as received
use Rattle.udp_net.specs.Logs.{Log, Lists, receiving, one_more}
use Rattle.udp_member.specs.declared.runner.TheConstants.{RECEIVES}
use Rattle.udp_member.specs.Detectors.{after_round, begun_anew, is_silent, standing_of}
use Rattle.udp_member.specs.RunnerNotes.{RunnerNotes}
use Rattle.udp_member.specs.Turns.{Handed, Datagram, Suspect, Tick, Turn, Driven, Takes, TakesAll, Any, watched_at, goes_on, noted_of}

-- the answers 6 and 7 of the channel cut a round short, and nothing else does
abbrev pub PassesOver : Option Error → Option Error → Type 0
PassesOver answer None = goes_on answer ≡ true
PassesOver answer (Some e) = (answer ≡ Some e) × (is_end e ≡ true)

-- a turn, what is noted of it, and whether it goes on
pub record HandsIn {S : Type 0} (meaning : Meaning S) (handed : Handed) (channel : ChannelModel S) (notes : RunnerNotes) (failure : Option Error) (new_channel : ChannelModel S)
    (new_notes : RunnerNotes) : Type 0 where
  pub answer : Option Error
  pub turn : Turn meaning handed channel answer new_channel
  pub noted : new_notes ≡ noted_of handed channel answer notes
  pub why : PassesOver answer failure

-- a failed receive is counted, and no other
abbrev pub counted : Received → ℕ → ℕ
counted (received.Datagram bytes) n = n
counted received.Nothing n = n
counted received.Failed n = one_more n

-- a receive that is answered so, and hands nothing in
pub record Asks {N S : Type 0} (log : N → Option Log) (failed : N → ℕ) (answer : Received) (old new : Driven N S) : Type 0 where
  pub lists : Lists (log old.net) (receiving answer) (log new.net)
  pub failed_is : failed new.net ≡ counted answer (failed old.net)
  pub faults : new.faults ≡ counted answer old.faults
  pub channel : new.channel ≡ old.channel
  pub notes : new.notes ≡ old.notes

-- a receive that gives none, or fails
abbrev pub ComesNone : {N S : Type 0} → (N → Option Log) → (N → ℕ) → Driven N S → Driven N S → Type 0
ComesNone log failed old new = Asks log failed received.Nothing old new ⊎ Asks log failed received.Failed old new

-- a datagram is received and handed in
pub record HearsOne {N S : Type 0} (log : N → Option Log) (failed : N → ℕ) (meaning : Meaning S) (old : Driven N S) (failure : Option Error) (new : Driven N S) : Type 0 where
  pub bytes : List ℕ
  pub answer : Option Error
  pub takes : Takes log failed meaning (Datagram bytes) old answer new
  pub why : PassesOver answer failure

-- one receive
abbrev pub Receives : {N S : Type 0} → (N → Option Log) → (N → ℕ) → Meaning S → Driven N S → Result Bool Error → Driven N S → Type 0
Receives log failed meaning old (Ok true) new = HearsOne log failed meaning old None new
Receives log failed meaning old (Ok false) new = ComesNone log failed old new
Receives log failed meaning old (Err e) new = HearsOne log failed meaning old (Some e) new

-- ---- the parts of a round

-- it is cut short: these were handed in, and then one that is answered 6 or 7
pub record Cuts {N S X : Type 0} (log : N → Option Log) (failed : N → ℕ) (meaning : Meaning S) (as_handed : X → Handed) (may : X → Type 0) (old : Driven N S) (e : Error)
    (new : Driven N S) : Type 0 where
  pub handed : List X
  pub mid : Driven N S
  pub takes : TakesAll log failed meaning as_handed may old handed mid
  pub ends : is_end e ≡ true
  pub last : X
  pub may_be : may last
  pub answered : Takes log failed meaning (as_handed last) mid (Some e) new

-- so many datagrams are handed in that come: `RECEIVES`, or as many until a receive gives none, or fails
pub record HearsAll {N S : Type 0} (log : N → Option Log) (failed : N → ℕ) (meaning : Meaning S) (old : Driven N S) (count : ℕ) (new : Driven N S) : Type 0 where
  pub datagrams : List (List ℕ)
  pub many : length datagrams ≡ count
  pub heard : Driven N S
  pub takes : TakesAll log failed meaning Datagram Any old datagrams heard
  pub until : ((count ≡ RECEIVES) × (new ≡ heard)) ⊎ ((count < RECEIVES) × ComesNone log failed heard new)

abbrev pub Hears : {N S : Type 0} → (N → Option Log) → (N → ℕ) → Meaning S → Driven N S → Result ℕ Error → Driven N S → Type 0
Hears log failed meaning old (Ok count) new = HearsAll log failed meaning old count new
Hears log failed meaning old (Err e) new = Cuts log failed meaning Datagram Any old e new

-- the round is counted for those that the channel watches
abbrev pub counting : {N S : Type 0} → List Address → Driven N S → Driven N S
counting watched r = record r { notes = record r.notes { detector = after_round (standing_of r.channel) watched r.notes.detector } }

-- an address is silent for too long
abbrev pub IsSilent : {N S : Type 0} → Driven N S → Address → Type 0
IsSilent r p = is_silent r.notes.detector p ≡ true

-- those of them that are
abbrev pub silent_of : {N S : Type 0} → List Address → Driven N S → List Address
silent_of watched r = filter (is_silent r.notes.detector) watched

-- where there was one, all counts begin anew
abbrev pub after_suspicions : {N S : Type 0} → List Address → Driven N S → Driven N S
after_suspicions [] r = r
after_suspicions (p ∷ ps) r = record r { notes = record r.notes { detector = begun_anew r.notes.detector } }

-- each of the silent is suspected, in order
pub record SuspectsAll {N S : Type 0} (log : N → Option Log) (failed : N → ℕ) (meaning : Meaning S) (watched : List Address) (old new : Driven N S) : Type 0 where
  pub mid : Driven N S
  pub takes : TakesAll log failed meaning Suspect (IsSilent old) old (silent_of watched old) mid
  pub after : new ≡ after_suspicions (silent_of watched old) mid

-- the silent are suspected, or one of the suspicions cuts it short
abbrev pub SuspectsOf : {N S : Type 0} → (N → Option Log) → (N → ℕ) → Meaning S → List Address → Driven N S → Option Error → Driven N S → Type 0
SuspectsOf log failed meaning watched old None new = SuspectsAll log failed meaning watched old new
SuspectsOf log failed meaning watched old (Some e) new = Cuts log failed meaning Suspect (IsSilent old) old e new

-- then the round is counted for those that the channel watches, and the silent are suspected; for want of memory nothing is counted and nobody suspected
abbrev pub Suspects : {N S : Type 0} → (N → Option Log) → (N → ℕ) → Meaning S → Driven N S → Option Error → Driven N S → Type 0
Suspects log failed meaning old failure new =
    SuspectsOf log failed meaning (watched_at old.channel.stage) (counting (watched_at old.channel.stage) old) failure new ⊎ ((failure ≡ None) × (new ≡ old))

-- last a tick
pub record Ticks {N S : Type 0} (log : N → Option Log) (failed : N → ℕ) (meaning : Meaning S) (old : Driven N S) (failure : Option Error) (new : Driven N S) : Type 0 where
  pub answer : Option Error
  pub takes : Takes log failed meaning Tick old answer new
  pub why : PassesOver answer failure

-- the suspicions, and where they are not cut short the tick
pub record SuspectsAndTicks {N S : Type 0} (log : N → Option Log) (failed : N → ℕ) (meaning : Meaning S) (old : Driven N S) (failure : Option Error) (new : Driven N S) : Type 0 where
  pub cut : Option Error
  pub mid : Driven N S
  pub suspects : Suspects log failed meaning old cut mid
  pub ticks : cut ≡ None → Ticks log failed meaning mid failure new
  pub stops : (e : Error) → cut ≡ Some e → (failure ≡ Some e) × (new ≡ mid)

-- the datagrams that come are handed in; and where that is not cut short, suspicions and a tick
pub record Rounds {N S : Type 0} (log : N → Option Log) (failed : N → ℕ) (meaning : Meaning S) (old : Driven N S) (failure : Option Error) (new : Driven N S) : Type 0 where
  pub heard : Result ℕ Error
  pub mid : Driven N S
  pub hears : Hears log failed meaning old heard mid
  pub then_suspects : (count : ℕ) → heard ≡ Ok count → SuspectsAndTicks log failed meaning mid failure new
  pub stops : (e : Error) → heard ≡ Err e → (failure ≡ Some e) × (new ≡ mid)
