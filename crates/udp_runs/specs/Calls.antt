-- Calls of a channel, and which of them an event of a script asks for.
use Rattle.std.specs.Prelude.{◌≡◌, ℕ, List, Option}
use Rattle.std.specs.Borrow.{Bor}
use Rattle.address.specs.Ids.{Address}
use Rattle.state_transfer.specs.Meanings.{Meaning}
use Rattle.world_model.specs.declared.WorldEvent.{WorldEvent}
use Rattle.world_model.specs.declared.WorldEvent.TheVariants as event
use Rattle.member.specs.declared.error.Error.{Error}
use Rattle.member.specs.declared.input.Input.TheVariants as input
use Rattle.channel.specs.Calls.{Calls, CallsLent, Connects, Reconnects}
use Rattle.channel.specs.Channels.{ChannelModel}
use Rattle.udp_member.specs.Turns.{Driven}
use Rattle.law_runners.specs.Plays.{LeftBy}
use Rattle.law_runners.specs.Runs.{with_channel}
use Rattle.udp_runs.specs.declared.calls.Asked.{Asked}
use Rattle.udp_runs.specs.declared.calls.Asked.TheVariants as asked
use Rattle.udp_runs.specs.declared.calls.Call.{Call}
use Rattle.udp_runs.specs.declared.calls.Call.TheVariants as call

-- a call of a channel, as its contract says, by which nothing else of its runner changes
abbrev pub IsCall : {N S : Type 0} → (ChannelModel S → Option Error → ChannelModel S → Type 0) → Driven N S → Option Error → Driven N S → Type 0
IsCall Made old failure new = Made old.channel failure new.channel × LeftBy failure old.channel new.channel × (new ≡ with_channel old new.channel)

-- the call that is asked for
abbrev pub MakesCall : {N S : Type 0} → Meaning S → List ℕ → Call → Driven N S → Option Error → Driven N S → Type 0
MakesCall meaning group call.Create = IsCall (Connects meaning input.Create group)
MakesCall meaning group (call.Join contact) = IsCall (Reconnects meaning (input.Join contact) group)
MakesCall meaning group (call.Send payload) = IsCall (CallsLent meaning input.Send payload.now)
MakesCall meaning group call.Tick = IsCall (Calls meaning input.Tick)
MakesCall meaning group (call.Suspect p) = IsCall (Calls meaning (input.Suspect p))
MakesCall meaning group (call.MergeHint p) = IsCall (Calls meaning (input.MergeHint p))
MakesCall meaning group call.Leave = IsCall (Calls meaning input.Leave)

-- the call that an event of a line asks for, and of the member of which node
pub data Asks : WorldEvent → ℕ → Call → Type 0 where
  Creates : (node : ℕ) → Asks (event.Create node) node call.Create
  Joins : (node : ℕ) (contact : Address) → Asks (event.Join node contact) node (call.Join contact)
  Sends : (node : ℕ) (payload : Bor (List ℕ)) → Asks (event.Send node payload.now) node (call.Send payload)
  Ticks : (node : ℕ) → Asks (event.Tick node) node call.Tick
  Suspects : (node : ℕ) (p : Address) → Asks (event.Suspect node p) node (call.Suspect p)
  Hints : (node : ℕ) (p : Address) → Asks (event.MergeHint node p) node (call.MergeHint p)
  Leaves : (node : ℕ) → Asks (event.Leave node) node call.Leave

-- what an event of a line asks for
abbrev pub IsAsked : WorldEvent → Asked → Type 0
IsAsked e (asked.Start node) = e ≡ event.Start node
IsAsked e (asked.Crash node) = e ≡ event.Crash node
IsAsked e (asked.Call node call) = Asks e node call
IsAsked e asked.Nothing = (k : ℕ) × (e ≡ event.Deliver k)
