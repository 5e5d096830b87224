-- A member before or after some of its step.
use Rattle.step_output.specs.declared.output.Output.{Output}
use Rattle.membership.specs.declared.member_state.MemberState.{MemberState}

-- a member in its step: what it is, and what was put out so far
pub record InStep (S : Type 0) : Type 0 where
  pub member : MemberState S
  pub out : Output

abbrev pub in_step : {S : Type 0} → MemberState S → Output → InStep S
in_step l out = record { member = l; out = out }
