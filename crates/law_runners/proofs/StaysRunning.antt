-- A channel runs on after what a runner hands in, unless that is answered 6 or 7.
use Rattle.std.proofs.Common.{◌≡◌, ℕ, Bool, true, false, not, cond, Option, None, Some, is_some, List, refl, sym, ap, ◌∙◌, subst}
use Rattle.std.specs.Prelude.{IsSomeAnd}
use Rattle.address.specs.declared.refusal.Refusal.TheVariants as refusal
use Rattle.address.specs.Ids.{Address}
use Rattle.state_transfer.specs.Meanings.{Meaning}
use Rattle.trace_props.specs.declared.event.Event.{Event}
use Rattle.law_acts.specs.Cores.{Core}
use Rattle.membership.specs.declared.member_state.MemberState.{MemberState}
use Rattle.member.specs.declared.error.Error.{Error}
use Rattle.member.specs.declared.error.Error.TheVariants.{Refused}
use Rattle.member.specs.declared.input.Input.{Input}
use Rattle.member.specs.declared.input.Input.TheVariants as input
use Rattle.member.specs.Members.{MemberModel, core_of}
use Rattle.member.specs.Handling.{StaysSo, Replies}
use Rattle.channel.specs.declared.stage.Stage.{Stage}
use Rattle.channel.specs.declared.stage.Stage.TheVariants.{Apart, Connected, Ended}
use Rattle.channel.specs.Errors.{is_end}
use Rattle.channel.specs.Channels.{ChannelModel, stage_of, left_by}
use Rattle.channel.specs.Calls.{CallsAt, Calls, Steps}
use Rattle.udp_member.specs.Turns.{Handed, Datagram, Suspect, Tick, Hint, CallsBy, goes_on}
use Rattle.law_runners.specs.Plays.{LeftBy}
use Rattle.law_runners.proofs.CallIsStep.{ends_by, is_over}

not-so : (b : Bool) → not b ≡ true → b ≡ false
not-so true e = absurd (let bad : false ≡ true = e in cc)
not-so false e = refl

pub ends-not : (answer : Option Error) → goes_on answer ≡ true → ends_by answer ≡ false
ends-not None goes = refl
ends-not (Some e) goes = not-so (is_end e) goes

module _ {S : Type 0} (meaning : Meaning S) where
  -- ---- the member runs on

  some-stays : (c : Core S) (end : Option (Core S)) → StaysSo c end → is_some end ≡ true
  some-stays c None x = absurd x
  some-stays c (Some d) x = refl

  over-by : (address : Address) (group : List ℕ) (state : Option (MemberState S)) → let m : MemberModel S = record { address = address; group = group; member_state = state } in
      is_some (core_of m) ≡ true → is_over (stage_of m) ≡ false
  over-by address group None e = absurd (let bad : false ≡ true = e in cc)
  over-by address group (Some l) e = refl

  over-not : (m : MemberModel S) → is_some (core_of m) ≡ true → is_over (stage_of m) ≡ false
  over-not m e = over-by m.address m.group m.member_state e

  -- inputs that a member takes and runs on
  abbrev Keeps : Input → Type 0
  Keeps i = (c : Core S) (happened : List Event) (end : Option (Core S)) → Replies c i happened end → is_some end ≡ true

  replied : (i : Input) → Keeps i → (o : Option (Core S)) (happened : List Event) (end : Option (Core S)) → IsSomeAnd o (λ c. Replies c i happened end) → is_some end ≡ true
  replied i keeps None happened end x = absurd x
  replied i keeps (Some c) happened end x = keeps c happened end x

  -- ---- so does the channel

  same-stage : (b : Bool) (c : ChannelModel S) → b ≡ false → is_over (cond b (record c { stage = Ended }) c).stage ≡ is_over c.stage
  same-stage true c e = absurd (let bad : true ≡ false = e in cc)
  same-stage false c e = refl

  module _ (i : Input) (keeps : Keeps i) (old new : ChannelModel S) where
    left-same : (e : Error) → new ≡ left_by e old → is_end e ≡ false → is_over new.stage ≡ is_over old.stage
    left-same e is goes = ap (λ (c : ChannelModel S). is_over c.stage) is ∙ same-stage (is_end e) old goes

    refused-same : (answer : Option Error) (e : Error) → answer ≡ Some e → is_end e ≡ false → LeftBy answer old new → is_over new.stage ≡ is_over old.stage
    refused-same answer e why goes left = left-same e (let l : LeftBy (Some e) old new = subst (λ (o : Option Error). LeftBy o old new) why left in l) goes

    steps-same : (m : MemberModel S) (answer : Option Error) → old.stage ≡ Connected m → Steps meaning i m old answer new → LeftBy answer old new → goes_on answer ≡ true
        → is_over new.stage ≡ is_over old.stage
    steps-same m None at s left goes =
        ap (λ (c : ChannelModel S). is_over c.stage) s.becomes
        ∙ over-not s.left (replied i keeps (core_of m) s.out.events.items (core_of s.left) s.handled.reply)
        ∙ sym (ap (λ (t : Stage S). is_over t) at)
    steps-same m (Some e) at s left goes = left-same e left (not-so (is_end e) goes)

    call-same : (stage : Stage S) (answer : Option Error) → old.stage ≡ stage → CallsAt meaning i stage old answer new → LeftBy answer old new → goes_on answer ≡ true
        → is_over new.stage ≡ is_over old.stage
    call-same (Apart s) answer at c left goes = refused-same answer (Refused refusal.NotConnected) c refl left
    call-same (Connected m) answer at c left goes = steps-same m answer at c left goes
    call-same Ended answer at c left goes = absurd (let bad : false ≡ true = sym (ap goes_on c) ∙ goes in cc)

    runs-on : (answer : Option Error) → Calls meaning i old answer new → LeftBy answer old new → goes_on answer ≡ true → is_over new.stage ≡ is_over old.stage
    runs-on answer c left goes = call-same old.stage answer refl c left goes

  pub goes-on : (handed : Handed) (old : ChannelModel S) (answer : Option Error) (new : ChannelModel S) → CallsBy meaning handed old answer new → LeftBy answer old new → goes_on answer ≡ true
      → is_over new.stage ≡ is_over old.stage
  goes-on (Datagram bytes) old answer new c left goes = runs-on (input.Datagram c.lent) (λ k happened end x. some-stays k end x.1) old new answer c.calls left goes
  goes-on (Suspect p) old answer new c left goes = runs-on (input.Suspect p) (λ k happened end x. some-stays k end x.1) old new answer c left goes
  goes-on Tick old answer new c left goes = runs-on input.Tick (λ k happened end x. some-stays k end x.1) old new answer c left goes
  goes-on (Hint p) old answer new c left goes = runs-on (input.MergeHint p) (λ k happened end x. some-stays k end x.1) old new answer c left goes
