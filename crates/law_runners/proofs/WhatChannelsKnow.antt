-- What a channel knows whose member runs in a deployment.
use Rattle.std.proofs.Common.{◌≡◌, false, Option, None, Some, List, refl, sym, ap, ◌∙◌, subst}
use Rattle.std.specs.Option.{IsSomeAnd, option_map, option_map_or, option_and_then}
use Rattle.std.proofs.lemmas.Option.{none-some, same_Some}
use Rattle.address.specs.Ids.{Address}
use Rattle.state_transfer.specs.Meanings.{Meaning}
use Rattle.trace_props.specs.declared.event.Event.{Event}
use Rattle.law_acts.specs.Cores.{Core, id_of, is_frozen}
use Rattle.law_acts.specs.Known.{AllDelivered, Knows}
use Rattle.member.specs.Members.{MemberModel, core_of}
use Rattle.channel.specs.declared.stage.Stage.{Stage}
use Rattle.channel.specs.declared.stage.Stage.TheVariants.{Apart, Connected, Ended}
use Rattle.channel.specs.Channels.{member_in}
use Rattle.law_processes.specs.Known.{MembersKnow}
use Rattle.law_runners.specs.KnownOfChannels.{ChannelKnows, ChannelsKnow}

module _ {S : Type 0} (meaning : Meaning S) (t : List Event) (p : Address) where
  by-core : (m : MemberModel S) (c : Core S) → core_of m ≡ Some c → Knows meaning t p c → ChannelKnows meaning t p (Connected m)
  by-core m c e k = record {
    receiver = λ s at. sym (same_Some c.state s (sym (ap (option_map (λ (d : Core S). d.state)) e) ∙ at)) ∙ sym k.state;
    view = λ v at. k.current ∙ ap id_of (sym (ap (option_and_then (λ (d : Core S). d.view)) e) ∙ at);
    blocked = λ at. k.blocked ∙ sym (ap (λ (o : Option (Core S)). option_map_or (λ (d : Core S). is_frozen d.view d.installed) o false) e) ∙ at;
    stable = λ v at.
        subst (λ n. AllDelivered t v n) (sym (ap (λ (o : Option (Core S)). option_map_or (λ (d : Core S). d.view_state.stable) o 0) e))
        (k.stable v (sym (ap (option_and_then (λ (d : Core S). d.view)) e) ∙ at));
  }

  connected-by : (m : MemberModel S) (o : Option (Core S)) → core_of m ≡ o → IsSomeAnd o (Knows meaning t p) → ChannelKnows meaning t p (Connected m)
  connected-by m None e k = absurd k
  connected-by m (Some c) e k = by-core m c e k

  pub connected-knows : (m : MemberModel S) → IsSomeAnd (core_of m) (Knows meaning t p) → ChannelKnows meaning t p (Connected m)
  connected-knows m k = connected-by m (core_of m) refl k

  by-stage : (m : MemberModel S) (stage : Stage S) → member_in stage ≡ Some m → IsSomeAnd (core_of m) (Knows meaning t p) → ChannelKnows meaning t p stage
  by-stage m (Apart s) e k = absurd (none-some m e)
  by-stage m (Connected n) e k = connected-knows n (subst (λ (x : MemberModel S). IsSomeAnd (core_of x) (Knows meaning t p)) (sym (same_Some n m e)) k)
  by-stage m Ended e k = absurd (none-some m e)

pub channels-know : {S : Type 0} (meaning : Meaning S) → MembersKnow meaning → ChannelsKnow meaning
channels-know meaning law group steps p m stage history runs there = by-stage meaning _ p m stage there (law group steps history p m runs)
