-- A connect: the member starts, and takes its first input.
use Rattle.std.proofs.Common.{◌≡◌, ℕ, true, false, Option, Some, None, List, Result, Ok, subst}
use Rattle.state_transfer.specs.Meanings.{Meaning}
use Rattle.member.specs.declared.input.Input.{Input}
use Rattle.member.specs.Members.{MemberModel}
use Rattle.member.specs.declared.error.Error.{Error}
use Rattle.channel.specs.declared.stage.Stage.{Stage}
use Rattle.channel.specs.declared.stage.Stage.TheVariants.{Apart, Connected, Ended}
use Rattle.channel.specs.Channels.{ChannelModel, is_in}
use Rattle.channel.specs.Calls.{Steps, CallsAt, Calls, ConnectsAt, Connects, Reconnects}
use Rattle.channel.specs.Stages.{Begins}

module _ {S : Type 0} (meaning : Meaning S) where
  abbrev staged : ChannelModel S → Stage S → ChannelModel S
  staged c s = record { address = c.address; stage = s; outgoing = c.outgoing; happened = c.happened }

  -- a step says nothing of the stage before
  steps-from : (input : Input) (m : MemberModel S) (c : ChannelModel S) (s : Stage S) (failure : Option Error) (new : ChannelModel S)
      → Steps meaning input m (staged c s) failure new → Steps meaning input m c failure new
  steps-from input m c s None new x = record { out = x.out; left = x.left; handled = x.handled; becomes = x.becomes }
  steps-from input m c s (Some e) new x = x

  begun-at : {A : Type 0} (input : Input) (name : List ℕ) (c : ChannelModel S) (old mid : Stage S) (done : A) (failure : Option Error) (new : ChannelModel S)
      → Begins {A = A} c.address name old (Ok done) mid → Calls meaning input (staged c mid) failure new → ConnectsAt meaning input name old c failure new
  begun-at input name c (Apart s) mid done failure new b x = rw b.0 (record {
    member = b.1.member;
    started = b.1.started;
    steps = steps-from input b.1.member c mid failure new (subst (λ (k : Stage S). CallsAt meaning input k (staged c mid) failure new) b.1.becomes x);
  })
  begun-at input name c (Connected m) mid done failure new b x = let n = b.answer in absurd (cc)
  begun-at input name c Ended mid done failure new b x = let n = b.answer in absurd (cc)

  pub begun : {A : Type 0} (input : Input) (name : List ℕ) (c : ChannelModel S) (mid : Stage S) (r : Result A Error) (done : A) (failure : Option Error) (new : ChannelModel S)
      → Begins c.address name c.stage r mid → r ≡ Ok done → Calls meaning input (staged c mid) failure new → Connects meaning input name c failure new
  begun {A} input name c mid r done failure new b is x =
      begun-at {A = A} input name c c.stage mid done failure new (subst (λ (k : Result A Error). Begins c.address name c.stage k mid) is b) x

  -- under a name that is not its own a member starts
  pub reconnected : {A : Type 0} (input : Input) (name : List ℕ) (c joined : ChannelModel S) (mid : Stage S) (r : Result A Error) (done : A) (failure : Option Error) (new : ChannelModel S)
      → is_in name c.stage ≡ false → Begins c.address name c.stage r mid → r ≡ Ok done → joined ≡ staged c mid → Calls meaning input joined failure new
      → Reconnects meaning input name c failure new
  reconnected {A} input name c joined mid r done failure new other b is same x =
      rw other (begun {A = A} input name c mid r done failure new b is (subst (λ (j : ChannelModel S). Calls meaning input j failure new) same x))

  -- under its own name its member is handed the input
  pub asked-again : (input : Input) (name : List ℕ) (c joined : ChannelModel S) (failure : Option Error) (new : ChannelModel S) → is_in name c.stage ≡ true → joined ≡ c
      → Calls meaning input joined failure new → Reconnects meaning input name c failure new
  asked-again input name c joined failure new own same x = rw own (subst (λ (j : ChannelModel S). Calls meaning input j failure new) same x)
