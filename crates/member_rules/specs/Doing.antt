-- What a member does when it leaves.
use Rattle.std.specs.Prelude.{List, [], ◌∷◌, Option, Some, None}
use Rattle.state_transfer.specs.Meanings.{Meaning}
use Rattle.trace_props.specs.declared.event.Event.TheVariants.{Left}
use Rattle.wire_values.specs.Posted.{Posted}
use Rattle.law_acts.specs.Chains.{Acted}
use Rattle.step_output.specs.declared.output.Output.{Output}
use Rattle.step_output.specs.Outputs.{Grows}
use Rattle.membership.specs.MemberStates.{core_of}
use Rattle.step_output.specs.Steps.{Who}
use Rattle.membership.specs.InSteps.{InStep}

-- on a packet that came, or on none, it left by acts alone, and what they put out is what grew
pub record HasLeft {S : Type 0} (meaning : Meaning S) (came : Option Posted) (who : Who) (old : InStep S) (later : Output) : Type 0 where
  pub posted : List Posted
  pub grows : Grows who.group old.out later posted (Left who.address ∷ [])
  pub acted : Acted meaning came (Some (core_of who.address old.member)) posted (Left who.address ∷ []) None
