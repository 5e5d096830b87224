-- What a channel knows of itself, and what of that the trace says too.
use Rattle.std.specs.Prelude.{◌≡◌, ℕ, true, List, Some}
use Rattle.std.specs.Option.{ForSome}
use Rattle.address.specs.Ids.{Address}
use Rattle.state_transfer.specs.Meanings.{Meaning}
use Rattle.trace_props.specs.declared.event.Event.{Event}
use Rattle.trace_props.specs.Observed.{current_view}
use Rattle.trace_props.specs.Observed as trace
use Rattle.trace_props.specs.State.{state_of}
use Rattle.law_acts.specs.Known.{AllDelivered}
use Rattle.member.specs.Members.{MemberModel}
use Rattle.channel.specs.declared.stage.Stage.{Stage}
use Rattle.channel.specs.Channels.{member_in, view_in, is_blocked, receiver_in, stable_in}
use Rattle.law_processes.specs.Deployments.{Step, IsHistory, nothing_yet, after_steps, trace_of}

-- its receiver is in the state that the trace gives; its view is the trace's; it knows that it is blocked where it is; and what it knows to be stable each member of its view has delivered
pub record ChannelKnows {S : Type 0} (meaning : Meaning S) (t : List Event) (p : Address) (stage : Stage S) : Type 0 where
  pub receiver : ForSome (receiver_in stage) (λ s. s ≡ state_of meaning p t)
  pub view : ForSome (view_in stage) (λ v. current_view p t ≡ Some v.id)
  pub blocked : is_blocked stage ≡ true → trace.is_blocked p t ≡ true
  pub stable : ForSome (view_in stage) (λ v. AllDelivered t v (stable_in stage))

-- in each history a channel whose member is the one that runs at an address, as calls of it leave it that play the steps of that address (`Plays`), knows so
abbrev pub ChannelsKnow : {S : Type 0} → Meaning S → Type 0
ChannelsKnow {S} meaning = (group : List ℕ) (steps : List (Step S)) (p : Address) (m : MemberModel S) (stage : Stage S) → IsHistory meaning group steps
    → (after_steps nothing_yet steps).members p ≡ Some m → member_in stage ≡ Some m → ChannelKnows meaning (trace_of steps) p stage
