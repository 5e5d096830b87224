-- What holds of a member between its calls.
use Rattle.std.specs.Prelude.{Option}
use Rattle.std.specs.Option.{ForSome}
use Rattle.membership.specs.declared.member_state.MemberState.{MemberState}
use Rattle.membership.specs.MemberStates.{IsMemberState}
use Rattle.member_rules.specs.Ordered.{IsOrdered}
use Rattle.step_output.specs.Steps.{Who}

-- what its acts need holds of it, and its messages are in order
pub record IsRunning {S : Type 0} (who : Who) (l : MemberState S) : Type 0 where
  pub member_state : IsMemberState who l
  pub ordered : IsOrdered who.address l

-- the same, unless it has ended
abbrev pub IsAlive : {S : Type 0} → Who → Option (MemberState S) → Type 0
IsAlive who member_state = ForSome member_state (IsRunning who)
