-- A process: what is told in its turns, the line of its state, and its net.
use Rattle.std.specs.Prelude.{◌≡◌, ℕ, Bool, List, [], ◌++◌, Option}
use Rattle.std.specs.Option.{option_map_or}
use Rattle.address.specs.Ids.{Address}
use Rattle.state_transfer.specs.Meanings.{Meaning}
use Rattle.trace_props.specs.declared.event.Event.{Event}
use Rattle.channel.specs.Channels.{ChannelModel, receiver_in}
use Rattle.udp_net.specs.Logs.{Log}
use Rattle.udp_member.specs.Turns.{Driven}
use Rattle.law_runners.specs.Plays.{crash_of}
use Rattle.law_runners.specs.Runs.{Drives}
use Rattle.law_runners.specs.Systems.{Gone}
use Rattle.udp_runs.specs.declared.process.Process.{Process}
use Rattle.udp_runs.specs.Texts.{Line, events_in}

-- a channel of which all that it tells is taken
abbrev pub all_told : {S : Type 0} → ChannelModel S → ChannelModel S
all_told c = record c { happened = [] }

-- TURN: calls of a runner, and lines that say all that is told by them, and that it has crashed where its channel ended other than by a leave
pub record Turns {N S : Type 0} (log : N → Option Log) (failed : N → ℕ) (meaning : Meaning S) (group : List ℕ) (p : Address) (old new : Driven N S) (lines : List Line)
    : Type 0 where
  pub taken : List Event
  pub fell : Bool
  pub drives : Drives log failed meaning group old taken fell new
  pub told : new.channel.happened ≡ []
  pub says : events_in lines ≡ taken ++ crash_of p fell

-- the line of the state of a member, unless it has ended
abbrev pub state_text : {N S : Type 0} → (Address → S → List ℕ) → Process N S → List ℕ
state_text line_of q = option_map_or (line_of q.address) (receiver_in q.runner.channel.stage) []

-- the net of a process, as it is given back
abbrev pub net_of : {N S : Type 0} → Process N S → Gone N
net_of q = record { by = q.address; net = q.runner.net }
