-- What holds of a member between its calls beside what its acts need: its messages are in order.
use Rattle.std.specs.Prelude.{◌≡◌, ℕ, ◌+◌, false, Option, None}
use Rattle.std.specs.Option.{ForSome}
use Rattle.address.specs.Ids.{Address, same_address}
use Rattle.wire_values.specs.Values.{held_at}
use Rattle.wire_values.specs.Posted.{Posted}
use Rattle.nak_stream.specs.Windows.{WindowModel}
use Rattle.sequencer.specs.Queues.{next_ordered}
use Rattle.traffic.specs.declared.view_state.ViewState.{ViewState}
use Rattle.traffic.specs.declared.view_state.ViewState.TheVariants as kinds
use Rattle.traffic.specs.Coordinators.{IsCoordinator}
use Rattle.traffic.specs.Turns.{IsSettled}
use Rattle.membership.specs.declared.member_state.MemberState.{MemberState}
use Rattle.membership.specs.MemberStates.{IsMemberState}
use Rattle.membership.specs.Doing.{Did}
use Rattle.membership.specs.InSteps.{InStep}
use Rattle.state_transfer.specs.Meanings.{Meaning}
use Rattle.step_output.specs.Calm.{IsCalm}
use Rattle.step_output.specs.Steps.{Who}

-- it does not hold the number that comes next: all that could be delivered was
abbrev pub HasNoneNext : WindowModel → Type 0
HasNoneNext w = held_at (w.delivered + 1) w.held ≡ None

-- its coordinator is what a coordinator is between its steps, with nothing left that it may order; another member is not its view's coordinator, and
-- does not hold the number that comes next
abbrev pub IsOrderly : Address → ViewState → Type 0
IsOrderly me (kinds.Coordinator m) = IsCoordinator me m × IsSettled me m × (next_ordered m.window.stable m.orderer ≡ None)
IsOrderly me (kinds.Follower m) = (same_address me m.view.id.creator ≡ false) × HasNoneNext m.window

abbrev pub IsOrdered : {S : Type 0} → Address → MemberState S → Type 0
IsOrdered me l = ForSome l.view_state (IsOrderly me)

-- it follows a rule by acts, and is afterwards what a member is between its calls; at most so many events come of it
pub record HearsBy {S : Type 0} (meaning : Meaning S) (who : Who) (came : Option Posted) (most : ℕ) (rule : InStep S → InStep S → Type 0) (old new : InStep S) : Type 0 where
  pub member_state : IsMemberState who new.member
  pub ordered : IsOrdered who.address new.member
  pub does : rule old new
  pub did : Did meaning came who old new
  pub calm : IsCalm most old.out new.out
