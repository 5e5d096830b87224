-- What a connect and a step do to the stage alone: of these the contracts of the calls are made.
use Rattle.std.specs.Prelude.{◌≡◌, ℕ, true, false, List, [], ◌++◌, Option, None, Some, Result, Ok, Err}
use Rattle.address.specs.declared.refusal.Refusal.TheVariants.{NotConnected, AlreadyConnected, Closed, Memory, BadName}
use Rattle.state_transfer.specs.Meanings.{Meaning}
use Rattle.address.specs.Ids.{Address}
use Rattle.wire_values.specs.Names.{is_group_name}
use Rattle.step_output.specs.declared.output.Output.{Output}
use Rattle.step_output.specs.Outputs.{Puts}
use Rattle.member.specs.declared.error.Error.{Error}
use Rattle.member.specs.declared.error.Error.TheVariants.{Refused}
use Rattle.member.specs.declared.input.Input.{Input}
use Rattle.member.specs.Members.{MemberModel}
use Rattle.member.specs.Handling.{Handled}
use Rattle.channel.specs.declared.stage.Stage.{Stage}
use Rattle.channel.specs.declared.stage.Stage.TheVariants.{Apart, Connected, Ended}
use Rattle.channel.specs.Channels.{ChannelModel, stage_of}
use Rattle.channel.specs.Calls.{IsStarted}

-- its member has just started
pub record Starts {S : Type 0} (address : Address) (name : List ℕ) (receiver : S) (new : Stage S) : Type 0 where
  pub member : MemberModel S
  pub started : IsStarted address name receiver member
  pub becomes : new ≡ Connected member

-- it is refused, and stays
pub record Refuses {S A : Type 0} (e : Error) (old : Stage S) (result : Result A Error) (new : Stage S) : Type 0 where
  pub answer : result ≡ Err e
  pub stays : new ≡ old

abbrev pub Begins : {S A : Type 0} → Address → List ℕ → Stage S → Result A Error → Stage S → Type 0
Begins address name (Apart s) (Ok done) new = (is_group_name name ≡ true) × Starts address name s new
Begins address name (Apart s) (Err e) new = (is_group_name name ≡ false) × (e ≡ Refused BadName) × (new ≡ Apart s)
Begins address name (Connected m) result new = Refuses (Refused AlreadyConnected) (Connected m) result new
Begins address name Ended result new = Refuses (Refused Closed) Ended result new

-- one step of its member
pub record HandsAt {S : Type 0} (meaning : Meaning S) (input : Input) (m : MemberModel S) (result : Result Output Error) (new : Stage S) : Type 0 where
  pub left : MemberModel S
  pub handled : Handled meaning m input result left
  pub becomes : new ≡ stage_of left

abbrev pub Hands : {S : Type 0} → Meaning S → Input → Stage S → Result Output Error → Stage S → Type 0
Hands meaning input (Apart s) result new = Refuses (Refused NotConnected) (Apart s) result new
Hands meaning input (Connected m) result new = HandsAt meaning input m result new
Hands meaning input Ended result new = Refuses (Refused Closed) Ended result new

-- what a step put out waits behind what waited; where room for it is refused, and it was something, the channel has ended
abbrev pub Keeps : {S : Type 0} → Output → ChannelModel S → Option Error → ChannelModel S → Type 0
Keeps out old None new = new ≡ record old { outgoing = old.outgoing ++ out.packets.items; happened = old.happened ++ out.events.items }
Keeps out old (Some e) new = (e ≡ Refused Memory) × (new ≡ record old { stage = Ended }) × (Puts [] [] out → ⊥)
