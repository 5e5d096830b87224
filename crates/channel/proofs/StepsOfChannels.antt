-- What a step of the member leaves of a channel, and what its callers know of it.
use Rattle.std.proofs.Common.{◌≡◌, ◌++◌, Bool, true, false, cond, Option, Some, None, Result, Ok, Err, inl, inr, ◌⊎◌, is_some, OnOk, refl, sym, ap, ◌∙◌, subst}
use Rattle.std.specs.Prelude.{MatchBool}
use Rattle.std.specs.Option.{IsSomeAnd, option_map, option_map_or}
use Rattle.std.specs.Result.{result_err}
use Rattle.std.proofs.lemmas.Option.{same_Some}
use Rattle.address.specs.declared.refusal.Refusal.{Refusal}
use Rattle.address.specs.declared.refusal.Refusal.TheVariants.{NotConnected, Closed, Memory}
use Rattle.state_transfer.specs.Meanings.{Meaning}
use Rattle.law_acts.specs.Cores.{Core}
use Rattle.step_output.specs.declared.output.Output.{Output}
use Rattle.membership.specs.declared.member_state.MemberState.{MemberState}
use Rattle.membership.specs.MemberStates.{core_of as core_at}
use Rattle.member.specs.declared.error.Error.{Error}
use Rattle.member.specs.declared.error.Error.TheVariants.{Refused, Wire}
use Rattle.member.specs.declared.input.Input.{Input}
use Rattle.member.specs.declared.input.Input.TheVariants.{Leave}
use Rattle.member.specs.Members.{MemberModel, core_of, refusal_in, refusal_of, is_unreadable}
use Rattle.member.specs.Handling.{Handled, Replies}
use Rattle.channel.specs.declared.stage.Stage.{Stage}
use Rattle.channel.specs.declared.stage.Stage.TheVariants.{Apart, Connected, Ended}
use Rattle.channel.specs.Errors.{is_end}
use Rattle.channel.specs.Channels.{ChannelModel, stage_of, left_by}
use Rattle.channel.specs.Calls.{CallsAt, Calls}
use Rattle.channel.specs.Stages.{Hands, Keeps}

same_Err : {A E : Type 0} (a b : E) → ◌≡◌ {A = Result A E} (Err a) (Err b) → a ≡ b
same_Err a b e = cc

module _ {S : Type 0} (meaning : Meaning S) where
  -- ---- where a refused step leaves its member

  gone-at : (m : MemberModel S) (l : Option (MemberState S)) → option_map (core_at m.address) l ≡ None → cond (is_some l) (Connected m) Ended ≡ Ended
  gone-at m None e = refl
  gone-at m (Some l) e = absurd (cc)

  -- a member without a core has ended
  gone : (m : MemberModel S) → core_of m ≡ None → stage_of m ≡ Ended
  gone m e = gone-at m m.member_state e

  -- one that refuses, but not with 6, runs
  runs-at : (m : MemberModel S) (input : Input) (l : Option (MemberState S)) (e : Error) → is_end e ≡ false
      → option_map_or (λ c. refusal_in c input) (option_map (core_at m.address) l) (Some (Refused Closed)) ≡ Some e → cond (is_some l) (Connected m) Ended ≡ Connected m
  runs-at m input (Some l) e goes is = refl
  runs-at m input None e goes is = let n : true ≡ false = ap is_end (same_Some (Refused Closed) e is) ∙ goes in absurd (cc)

  -- after any refusal but 6 and 7 it is as before
  same-after : (m left : MemberModel S) (input : Input) (e : Error) (u : Bool) → is_end e ≡ false
      → MatchBool u ((e ≡ Refused Closed) × (core_of left ≡ None)) ((refusal_of m input ≡ Some e) × (left ≡ m)) → stage_of left ≡ Connected m
  same-after m left input e true goes x = let n : true ≡ false = sym (ap is_end x.0) ∙ goes in absurd (cc)
  same-after m left input e false goes x = ap stage_of x.1 ∙ runs-at m input m.member_state e goes x.0

  -- after 6 it has ended
  closed-after : (m left : MemberModel S) (input : Input) (u : Bool) → is_unreadable meaning m input ≡ u → (core_of m ≡ None) ⊎ (is_unreadable meaning m input ≡ true)
      → MatchBool u ((Refused Closed ≡ Refused Closed) × (core_of left ≡ None)) ((refusal_of m input ≡ Some (Refused Closed)) × (left ≡ m)) → stage_of left ≡ Ended
  closed-after m left input true is only x = gone left x.1
  closed-after m left input false is (inl none) x = ap stage_of x.1 ∙ gone m none
  closed-after m left input false is (inr unread) x = let n : true ≡ false = sym unread ∙ is in absurd (cc)

  refused-with : (m left : MemberModel S) (input : Input) (r : Refusal) → Handled meaning m input (Err (Refused r)) left
      → stage_of left ≡ cond (is_end (Refused r)) Ended (Connected m)
  refused-with m left input Memory h = gone left (h.memory refl).0
  refused-with m left input Closed h = closed-after m left input (is_unreadable meaning m input) refl (h.closed.only refl) h.refused
  refused-with m left input r h = same-after m left input (Refused r) (is_unreadable meaning m input) refl h.refused

  refused-after : (m left : MemberModel S) (input : Input) (e : Error) → Handled meaning m input (Err e) left → stage_of left ≡ cond (is_end e) Ended (Connected m)
  refused-after m left input (Refused r) h = refused-with m left input r h
  refused-after m left input (Wire w) h = same-after m left input (Wire w) (is_unreadable meaning m input) refl h.refused

  -- ---- the stage after a step that is refused

  stays-at : (old new : Stage S) (a e : Error) (r : Result Output Error) → r ≡ Err a → r ≡ Err e → new ≡ cond (is_end a) Ended old → new ≡ cond (is_end e) Ended old
  stays-at old new a e r was is stays = subst (λ (k : Error). new ≡ cond (is_end k) Ended old) (same_Err a e (sym was ∙ is)) stays

  refused-stage : (input : Input) (old : Stage S) (r : Result Output Error) (e : Error) (new : Stage S) → Hands meaning input old r new → r ≡ Err e → new ≡ cond (is_end e) Ended old
  refused-stage input (Apart s) r e new x is = stays-at (Apart s) new (Refused NotConnected) e r x.answer is x.stays
  refused-stage input (Connected m) r e new x is =
      x.becomes ∙ refused-after m x.left input e (subst (λ (k : Result Output Error). Handled meaning m input k x.left) is x.handled)
  refused-stage input Ended r e new x is = stays-at Ended new (Refused Closed) e r x.answer is x.stays

  left-as : (c : ChannelModel S) (new : Stage S) (b : Bool) → new ≡ cond b Ended c.stage
      → record { address = c.address; stage = new; outgoing = c.outgoing; happened = c.happened } ≡ cond b (record c { stage = Ended }) c
  left-as c new true is = ap (λ (s : Stage S). let d : ChannelModel S = record { address = c.address; stage = s; outgoing = c.outgoing; happened = c.happened } in d) is
  left-as c new false is = ap (λ (s : Stage S). let d : ChannelModel S = record { address = c.address; stage = s; outgoing = c.outgoing; happened = c.happened } in d) is

  -- what a refused step leaves of the channel
  pub left-refused : (input : Input) (c : ChannelModel S) (r : Result Output Error) (e : Error) (new : Stage S) → Hands meaning input c.stage r new → r ≡ Err e
      → record { address = c.address; stage = new; outgoing = c.outgoing; happened = c.happened } ≡ left_by e c
  left-refused input c r e new x is = left-as c new (is_end e) (refused-stage input c.stage r e new x is)

  -- ---- a step that is taken

  abbrev at : ChannelModel S → Stage S → ChannelModel S
  at c s = record { address = c.address; stage = s; outgoing = c.outgoing; happened = c.happened }

  kept-at : (input : Input) (c : ChannelModel S) (old mid : Stage S) (out : Output) (failure : Option Error) (new : ChannelModel S) → Hands meaning input old (Ok out) mid → Keeps out (at c mid) failure new
      → CallsAt meaning input old c failure new
  kept-at input c (Apart s) mid out failure new x k = let n = x.answer in absurd (cc)
  kept-at input c (Connected m) mid out None new x k = record {
    out = out;
    left = x.left;
    handled = x.handled;
    becomes = k ∙ ap (λ (s : Stage S). let d : ChannelModel S = record { address = c.address; stage = s; outgoing = c.outgoing ++ out.packets.items; happened = c.happened ++ out.events.items } in d) x.becomes;
  }
  kept-at input c (Connected m) mid out (Some e) new x k = record { result = Ok out; left = x.left; handled = x.handled; why = (k.0, k.2) }
  kept-at input c Ended mid out failure new x k = let n = x.answer in absurd (cc)

  -- what it puts out waits, or there was no room for it
  pub kept : (input : Input) (c : ChannelModel S) (r : Result Output Error) (mid : Stage S) (out : Output) (failure : Option Error) (new : ChannelModel S) → Hands meaning input c.stage r mid → r ≡ Ok out
      → Keeps out (at c mid) failure new → Calls meaning input c failure new
  kept input c r mid out failure new x is k = kept-at input c c.stage mid out failure new (subst (λ (z : Result Output Error). Hands meaning input c.stage z mid) is x) k

  -- ---- a leave

  left-core-at : (core : Option (Core S)) (left : MemberModel S) (out : Output) → IsSomeAnd core (λ c. Replies c Leave out.events.items (core_of left)) → core_of left ≡ None
  left-core-at None left out x = absurd x
  left-core-at (Some c) left out x = x.1

  left-core : (m left : MemberModel S) (out : Output) → Handled meaning m Leave (Ok out) left → core_of left ≡ None
  left-core m left out h = left-core-at (core_of m) left out h.reply

  left-at : (old : Stage S) (c new : ChannelModel S) → CallsAt meaning Leave old c None new → new.stage ≡ Ended
  left-at (Apart s) c new x = absurd (cc)
  left-at (Connected m) c new x = ap (λ (d : ChannelModel S). d.stage) x.becomes ∙ gone x.left (left-core m x.left x.out x.handled)
  left-at Ended c new x = absurd (cc)

  -- after a leave that is taken it has ended
  pub has-left : {A : Type 0} (c new : ChannelModel S) (r : Result A Error) → Calls meaning Leave c (result_err r) new → OnOk r (new.stage ≡ Ended)
  has-left c new (Ok done) x = left-at c.stage c new x
  has-left c new (Err e) x = tt
