-- A member in its view, before or after some of its step.
use Rattle.step_output.specs.declared.output.Output.{Output}

-- a member in its view: what it keeps of the view, its application's state, and what was put out so far
pub record InView (K S : Type 0) : Type 0 where
  pub part : K
  pub state : S
  pub out : Output

abbrev pub in_view : {K S : Type 0} → K → S → Output → InView K S
in_view m s out = record { part = m; state = s; out = out }
