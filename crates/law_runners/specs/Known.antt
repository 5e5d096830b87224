-- What runners know whose processes stand in one order, and that the states of their receivers agree.
use Rattle.std.specs.Prelude.{◌≡◌, ℕ, List, Some}
use Rattle.address.specs.Ids.{Address, ViewId}
use Rattle.state_transfer.specs.Meanings.{Meaning}
use Rattle.trace_props.specs.Places.{EachPlace}
use Rattle.law_processes.specs.Replicas.{ReplicasAgree, HasDelivered}
use Rattle.channel.specs.declared.stage.Stage.{Stage}
use Rattle.channel.specs.Channels.{receiver_in}
use Rattle.law_processes.specs.Deployments.{trace_of}
use Rattle.law_runners.specs.KnownOfChannels.{ChannelKnows}
use Rattle.law_runners.specs.Items.{Item, steps_in}
use Rattle.law_runners.specs.Runs.{StandsWith}
use Rattle.law_runners.specs.Merged.{Done, own_items, items_of, AreMerged}

-- after any call or round of a runner its channel knows itself: it shows its receiver in the state that the trace gives, and what it knows to be stable each member of its view has delivered
abbrev pub RunnersKnow : {S : Type 0} → Meaning S → Type 0
RunnersKnow {S} meaning = (group : List ℕ) (all : List (Done S)) → AreMerged meaning group all → (p : Address) (stage : Stage S) → StandsWith meaning group p (own_items p all) stage
    → ChannelKnows meaning (trace_of (steps_in (items_of all))) p stage

-- wherever a process stands in one order with others, a channel that it stands with knows itself
abbrev pub KnowsAmong : {S : Type 0} → Meaning S → List ℕ → Address → List (Item S) → Stage S → Type 0
KnowsAmong {S} meaning group p own stage = (all : List (Done S)) → AreMerged meaning group all → own_items p all ≡ own
    → ChannelKnows meaning (trace_of (steps_in (items_of all))) p stage

-- copies agree at every place
abbrev pub RunnersAgree : {S : Type 0} → Meaning S → Type 0
RunnersAgree {S} meaning = (group : List ℕ) (all : List (Done S)) → AreMerged meaning group all → EachPlace (ReplicasAgree meaning) (trace_of (steps_in (items_of all)))

-- SAME STATE: of two processes that have delivered as much of one view, the channels show receivers in the same state
abbrev pub ReceiversAgree : {S : Type 0} → Meaning S → Type 0
ReceiversAgree {S} meaning = (group : List ℕ) (all : List (Done S)) → AreMerged meaning group all → (p q : Address) (stage other : Stage S) (v : ViewId) (n : ℕ) (s z : S)
    → StandsWith meaning group p (own_items p all) stage → StandsWith meaning group q (own_items q all) other
    → HasDelivered p v n (trace_of (steps_in (items_of all))) → HasDelivered q v n (trace_of (steps_in (items_of all))) → receiver_in stage ≡ Some s → receiver_in other ≡ Some z → s ≡ z
