-- Processes of several addresses, each with a runner: what one hand does that starts them, drives them one at a time, and lets them go.
use Rattle.std.specs.Prelude.{◌≡◌, ℕ, Bool, true, false, List, [], ◌∷◌, ◌++◌, slice_get, Option, None, Some, ◌⊎◌, is_some, if◌then◌else◌}
use Rattle.std.specs.List.{list_any, AllByRecursion}
use Rattle.std.specs.Option.{ForSome}
use Rattle.address.specs.Ids.{Address, IsAddress, same_address}
use Rattle.state_transfer.specs.Meanings.{Meaning}
use Rattle.trace_props.specs.declared.event.Event.{Event}
use Rattle.trace_props.specs.declared.event.Event.TheVariants.{Started, Crashed}
use Rattle.trace_props.specs.Observed.{has_started, is_start, member_of}
use Rattle.trace_props.specs.Places.{EachPlace}
use Rattle.trace_props.specs.Synchrony.{IsVirtuallySynchronous}
use Rattle.law_processes.specs.Replicas.{ReplicasAgree}
use Rattle.channel.specs.declared.stage.Stage.{Stage}
use Rattle.channel.specs.declared.stage.Stage.TheVariants.{Apart, Connected, Ended}
use Rattle.udp_net.specs.Logs.{Log, Lists, NetEvent}
use Rattle.udp_member.specs.Turns.{Driven}
use Rattle.law_processes.specs.Deployments.{EachStep, StartsOnce, nothing_yet, trace_of}
use Rattle.law_runners.specs.Plays.{crash_of}
use Rattle.law_runners.specs.KnownOfChannels.{ChannelKnows}
use Rattle.law_runners.specs.Items.{Item, IsProcess, net_events, steps_in}
use Rattle.law_runners.specs.Runs.{Drives, new_channel, StandsWith}
use Rattle.law_runners.specs.Merged.{Done, own_items, items_of, IsCarried}

-- the net that a process had whose runner is gone
pub record Gone (N : Type 0) : Type 0 where
  pub by : Address
  pub net : N

-- the runners that there are, by address, with one changed
abbrev pub with_runner : {N S : Type 0} → Address → Option (Driven N S) → (Address → Option (Driven N S)) → Address → Option (Driven N S)
with_runner p r at q = if same_address q p then r else at q

abbrev pub has_ended : {S : Type 0} → Stage S → Bool
has_ended (Apart s) = false
has_ended (Connected m) = false
has_ended Ended = true

-- DONE BY ONE HAND: the runners that there are, the nets of those that are gone, what happened, and what happened at the nets, in one order. From nothing, a process starts, at an
-- address where none did, over a net that lists nothing yet, or it ends as it starts, without a net; a runner makes some calls, and all that its channel tells is taken, and what its
-- net lists more; a process is killed; a runner is let go.
pub data PlayedOver {N S : Type 0} (log : N → Option Log) (failed : N → ℕ) (meaning : Meaning S) (group : List ℕ) : (Address → Option (Driven N S)) → List (Gone N) → List Event
    → List NetEvent → Type 0 where
  Nothing : PlayedOver log failed meaning group (λ p. None) [] [] []
  Begins : (at : Address → Option (Driven N S)) (gone : List (Gone N)) (events : List Event) (nets : List NetEvent) (p : Address) (r : Driven N S)
      → PlayedOver log failed meaning group at gone events nets
      → IsAddress p → has_started p events ≡ false → r.channel ≡ new_channel meaning p → ForSome (log r.net) (λ l. l ≡ [])
      → PlayedOver log failed meaning group (with_runner p (Some r) at) gone (events ++ Started p ∷ []) nets
  Fails : (at : Address → Option (Driven N S)) (gone : List (Gone N)) (events : List Event) (nets : List NetEvent) (p : Address) → PlayedOver log failed meaning group at gone events nets
      → IsAddress p → has_started p events ≡ false → PlayedOver log failed meaning group at gone (events ++ Started p ∷ Crashed p ∷ []) nets
  Turns : (at : Address → Option (Driven N S)) (gone : List (Gone N)) (events : List Event) (nets : List NetEvent) (p : Address) (old : Driven N S) (taken : List Event) (fell : Bool)
      (new : Driven N S) (more : List NetEvent) → PlayedOver log failed meaning group at gone events nets → at p ≡ Some old → Drives log failed meaning group old taken fell new
      → new.channel.happened ≡ [] → Lists (log old.net) (λ l. l ++ more) (log new.net)
      → PlayedOver log failed meaning group (with_runner p (Some new) at) gone (events ++ taken ++ crash_of p fell) (nets ++ more)
  Dies : (at : Address → Option (Driven N S)) (gone : List (Gone N)) (events : List Event) (nets : List NetEvent) (p : Address) (r : Driven N S)
      → PlayedOver log failed meaning group at gone events nets → at p ≡ Some r → has_ended r.channel.stage ≡ false
      → PlayedOver log failed meaning group (with_runner p None at) (gone ++ record { by = p; net = r.net } ∷ []) (events ++ Crashed p ∷ []) nets
  Closes : (at : Address → Option (Driven N S)) (gone : List (Gone N)) (events : List Event) (nets : List NetEvent) (p : Address) (r : Driven N S)
      → PlayedOver log failed meaning group at gone events nets → at p ≡ Some r
      → PlayedOver log failed meaning group (with_runner p None at) (gone ++ record { by = p; net = r.net } ∷ []) events nets

-- the same, whatever happened at the nets
abbrev pub Played : {N S : Type 0} → (N → Option Log) → (N → ℕ) → Meaning S → List ℕ → (Address → Option (Driven N S)) → List (Gone N) → List Event → Type 0
Played log failed meaning group at gone events = (nets : List NetEvent) × PlayedOver log failed meaning group at gone events nets

-- all nets list what happens there: those of the runners that there are, and those that are gone
pub record AllList {N S : Type 0} (log : N → Option Log) (at : Address → Option (Driven N S)) (gone : List (Gone N)) : Type 0 where
  pub runners : (p : Address) (r : Driven N S) → at p ≡ Some r → is_some (log r.net) ≡ true
  pub nets : (k : ℕ) (g : Gone N) → slice_get gone k ≡ Some g → is_some (log g.net) ≡ true

-- the process of a runner stands with its channel after what it did; and what happened at its net is what that lists
pub record IsRunnerOf {N S : Type 0} (log : N → Option Log) (meaning : Meaning S) (group : List ℕ) (p : Address) (own : List (Item S)) (r : Driven N S) : Type 0 where
  pub stands : StandsWith meaning group p own r.channel.stage
  pub lists : ForSome (log r.net) (λ l. l ≡ net_events own)

-- what comes of it where the nets gave only what was offered before: the events are virtually synchronous, copies agree, and each channel knows itself: its receiver is in the state
-- that the events give, and what it knows to be stable each member of its view has delivered
pub record IsAgreed {N S : Type 0} (meaning : Meaning S) (at : Address → Option (Driven N S)) (events : List Event) : Type 0 where
  pub synchronous : IsVirtuallySynchronous meaning events
  pub agreeing : EachPlace (ReplicasAgree meaning) events
  pub known : (p : Address) (r : Driven N S) → at p ≡ Some r → ChannelKnows meaning events p r.channel.stage

-- HISTORY: these events are what happened in some order of what processes did, each of one address, none started twice; each runner that there is is one of its process; what the
-- net lists of each that is gone is what happened there, and no other was used; and if the nets gave only what was offered before, they are virtually synchronous, and what comes of that
pub record IsHistoryOf {N S : Type 0} (log : N → Option Log) (meaning : Meaning S) (group : List ℕ) (at : Address → Option (Driven N S)) (gone : List (Gone N)) (events : List Event)
    : Type 0 where
  pub all : List (Done S)
  pub processes : (p : Address) → IsProcess meaning group p (own_items p all)
  pub once : EachStep StartsOnce nothing_yet (steps_in (items_of all))
  pub happened : trace_of (steps_in (items_of all)) ≡ events
  pub runners : (p : Address) (r : Driven N S) → at p ≡ Some r → IsRunnerOf log meaning group p (own_items p all) r
  pub nets : (k : ℕ) (g : Gone N) → slice_get gone k ≡ Some g → ForSome (log g.net) (λ l. l ≡ net_events (own_items g.by all))
  pub used : (p : Address) → at p ≡ None → (net_events (own_items p all) ≡ []) ⊎ ((k : ℕ) × (g : Gone N) × (slice_get gone k ≡ Some g) × (g.by ≡ p))
  pub agreed : IsCarried group (net_events (items_of all)) → IsAgreed meaning at events

-- SEEN: where all nets list, the order of what happened at them is the one that the hand saw: so of that order alone it is asked that the nets gave only what was offered before
pub record IsSeen {N S : Type 0} (log : N → Option Log) (meaning : Meaning S) (group : List ℕ) (at : Address → Option (Driven N S)) (gone : List (Gone N)) (events : List Event)
    (nets : List NetEvent) : Type 0 where
  pub history : IsHistoryOf log meaning group at gone events
  pub order : AllList log at gone → net_events (items_of history.all) ≡ nets
  pub agreed : AllList log at gone → IsCarried group nets → IsAgreed meaning at events

abbrev pub PlayedAreSeen : {N S : Type 0} → (N → Option Log) → (N → ℕ) → Meaning S → Type 0
PlayedAreSeen {N} {S} log failed meaning = (group : List ℕ) (at : Address → Option (Driven N S)) (gone : List (Gone N)) (events : List Event) (nets : List NetEvent)
    → PlayedOver log failed meaning group at gone events nets → IsSeen log meaning group at gone events nets

abbrev pub PlayedAreHistories : {N S : Type 0} → (N → Option Log) → (N → ℕ) → Meaning S → Type 0
PlayedAreHistories {N} {S} log failed meaning = (group : List ℕ) (at : Address → Option (Driven N S)) (gone : List (Gone N)) (events : List Event)
    → Played log failed meaning group at gone events → IsHistoryOf log meaning group at gone events

-- what is taken of what their channels tell is no start
abbrev pub PlayedTellNoStart : {N S : Type 0} → (N → Option Log) → (N → ℕ) → Meaning S → Type 0
PlayedTellNoStart {N} {S} log failed meaning = (group : List ℕ) (at : Address → Option (Driven N S)) (gone : List (Gone N)) (events : List Event) (p : Address) (old : Driven N S)
    (taken : List Event) (fell : Bool) (new : Driven N S) → Played log failed meaning group at gone events → at p ≡ Some old → Drives log failed meaning group old taken fell new
    → new.channel.happened ≡ [] → list_any is_start taken ≡ false

-- and each such event happens to the member of their address
abbrev pub PlayedTellOwn : {N S : Type 0} → (N → Option Log) → (N → ℕ) → Meaning S → Type 0
PlayedTellOwn {N} {S} log failed meaning = (group : List ℕ) (at : Address → Option (Driven N S)) (gone : List (Gone N)) (events : List Event) (p : Address) (old : Driven N S)
    (taken : List Event) (fell : Bool) (new : Driven N S) → Played log failed meaning group at gone events → at p ≡ Some old → Drives log failed meaning group old taken fell new
    → new.channel.happened ≡ [] → AllByRecursion (λ e. member_of e ≡ p) taken
