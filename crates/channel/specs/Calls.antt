-- What a call does: it is one call of its member's `handle`, whose packets and events stand behind those that wait.
use Rattle.std.specs.Prelude.{◌≡◌, ℕ, List, [], ◌++◌, Option, None, Some, Result, Ok, Err, Vec, MatchBool, MatchResult}
use Rattle.std.specs.Borrow.{Bor}
use Rattle.std.specs.Option.{IsSomeAnd}
use Rattle.address.specs.declared.refusal.Refusal.TheVariants.{NotConnected, AlreadyConnected, Closed, Memory, BadName}
use Rattle.state_transfer.specs.Meanings.{Meaning}
use Rattle.address.specs.Ids.{Address}
use Rattle.wire_values.specs.Names.{is_group_name}
use Rattle.law_acts.specs.Cores as cores
use Rattle.membership.specs.MemberStates.{idle_member}
use Rattle.step_output.specs.declared.output.Output.{Output}
use Rattle.step_output.specs.Outputs.{Puts}
use Rattle.member.specs.declared.error.Error.{Error}
use Rattle.member.specs.declared.error.Error.TheVariants.{Refused}
use Rattle.member.specs.declared.input.Input.{Input}
use Rattle.member.specs.Running.{IsAlive}
use Rattle.member.specs.Members.{MemberModel, core_of}
use Rattle.member.specs.Handling.{Handled}
use Rattle.member.specs.Watching.{watched}
use Rattle.channel.specs.declared.stage.Stage.{Stage}
use Rattle.channel.specs.declared.stage.Stage.TheVariants.{Apart, Connected, Ended}
use Rattle.channel.specs.Channels.{ChannelModel, stage_of, is_in}
use Rattle.step_output.specs.Steps.{who}

-- ---- a step of the member

-- the channel after a step of its member that put this out
abbrev pub after : {S : Type 0} → ChannelModel S → Output → MemberModel S → ChannelModel S
after c out m = record {
  address = c.address;
  stage = stage_of m;
  outgoing = c.outgoing ++ out.packets.items;
  happened = c.happened ++ out.events.items;
}

-- TAKEN: one call of `handle` took the input, and what it put out waits
pub record Takes {S : Type 0} (meaning : Meaning S) (input : Input) (m : MemberModel S) (old new : ChannelModel S) : Type 0 where
  pub out : Output
  pub left : MemberModel S
  pub handled : Handled meaning m input (Ok out) left
  pub becomes : new ≡ after old out left

-- why a step fails: `handle` refused the input, or room was refused for what it put out, and that was something
abbrev pub IsWhy : Result Output Error → Error → Type 0
IsWhy (Ok out) e = (e ≡ Refused Memory) × (Puts [] [] out → ⊥)
IsWhy (Err refused) e = e ≡ refused

-- FAILED: one call of `handle` came to this error
pub record Fails {S : Type 0} (meaning : Meaning S) (input : Input) (m : MemberModel S) (e : Error) : Type 0 where
  pub result : Result Output Error
  pub left : MemberModel S
  pub handled : Handled meaning m input result left
  pub why : IsWhy result e

-- a step, by the error that it came to, if it came to one
abbrev pub Steps : {S : Type 0} → Meaning S → Input → MemberModel S → ChannelModel S → Option Error → ChannelModel S → Type 0
Steps meaning input m old None new = Takes meaning input m old new
Steps meaning input m old (Some e) new = Fails meaning input m e

-- ---- a call

-- 1 before a connect, 6 after the end, and else a step of its member
abbrev pub CallsAt : {S : Type 0} → Meaning S → Input → Stage S → ChannelModel S → Option Error → ChannelModel S → Type 0
CallsAt meaning input (Apart s) old failure new = failure ≡ Some (Refused NotConnected)
CallsAt meaning input (Connected m) old failure new = Steps meaning input m old failure new
CallsAt meaning input Ended old failure new = failure ≡ Some (Refused Closed)

abbrev pub Calls : {S : Type 0} → Meaning S → Input → ChannelModel S → Option Error → ChannelModel S → Type 0
Calls meaning input old failure new = CallsAt meaning input old.stage old failure new

-- the same with an input whose bytes are lent
pub record CallsLent {S : Type 0} (meaning : Meaning S) (input : Bor (List ℕ) → Input) (bytes : List ℕ) (old : ChannelModel S)
    (failure : Option Error) (new : ChannelModel S) : Type 0 where
  pub lent : Bor (List ℕ)
  pub same : lent.now ≡ bytes
  pub calls : Calls meaning (input lent) old failure new

-- ---- a connect

-- a member that has just started: idle, with nothing noted
pub record IsStarted {S : Type 0} (address : Address) (group : List ℕ) (receiver : S) (m : MemberModel S) : Type 0 where
  pub address_is : m.address ≡ address
  pub group_is : m.group ≡ group
  pub member_state : IsSomeAnd m.member_state (idle_member address receiver)
  pub core_is : core_of m ≡ Some (cores.idle receiver address)
  pub alive : IsAlive (who m.address m.group) m.member_state

-- a member starts, with this input as its first step
pub record StartsWith {S : Type 0} (meaning : Meaning S) (input : Input) (name : List ℕ) (receiver : S) (old : ChannelModel S)
    (failure : Option Error) (new : ChannelModel S) : Type 0 where
  pub member : MemberModel S
  pub started : IsStarted old.address name receiver member
  pub steps : Steps meaning input member old failure new

-- 6 after its end, 5 where it is connected, 9 for what is no name of a group; else its member starts
abbrev pub ConnectsAt : {S : Type 0} → Meaning S → Input → List ℕ → Stage S → ChannelModel S → Option Error → ChannelModel S → Type 0
ConnectsAt meaning input name (Apart s) old failure new =
    MatchBool (is_group_name name) (StartsWith meaning input name s old failure new) (failure ≡ Some (Refused BadName))
ConnectsAt meaning input name (Connected m) old failure new = failure ≡ Some (Refused AlreadyConnected)
ConnectsAt meaning input name Ended old failure new = failure ≡ Some (Refused Closed)

abbrev pub Connects : {S : Type 0} → Meaning S → Input → List ℕ → ChannelModel S → Option Error → ChannelModel S → Type 0
Connects meaning input name old failure new = ConnectsAt meaning input name old.stage old failure new

-- the same, but under the name that it is connected by, its member is handed the input
abbrev pub Reconnects : {S : Type 0} → Meaning S → Input → List ℕ → ChannelModel S → Option Error → ChannelModel S → Type 0
Reconnects meaning input name old failure new =
    MatchBool (is_in name old.stage) (Calls meaning input old failure new) (Connects meaning input name old failure new)

-- ---- watched

-- 1 before a connect, 6 after the end, and else whom its member watches, or 7
abbrev pub Watches : {S Z : Type 0} → Stage S → Result (Vec Address Z) Error → Type 0
Watches (Apart s) result = result ≡ Err (Refused NotConnected)
Watches (Connected m) result = MatchResult result (λ list. list.items ≡ watched m) (λ e. e ≡ Refused Memory)
Watches Ended result = result ≡ Err (Refused Closed)
