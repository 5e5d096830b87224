-- What a member does in one call: acts, and what comes of them is put out.
use Rattle.std.specs.Prelude.{List, Option, Some}
use Rattle.state_transfer.specs.Meanings.{Meaning}
use Rattle.trace_props.specs.declared.event.Event.{Event}
use Rattle.wire_values.specs.Posted.{Posted}
use Rattle.law_acts.specs.Chains.{Acted}
use Rattle.step_output.specs.Outputs.{Grows}
use Rattle.membership.specs.MemberStates.{core_of}
use Rattle.step_output.specs.Steps.{Who}
use Rattle.membership.specs.InSteps.{InStep}

-- on a packet that came, or on none, it went on by acts alone, and what they put out and let happen is what grew
pub record Did {S : Type 0} (meaning : Meaning S) (came : Option Posted) (who : Who) (old new : InStep S) : Type 0 where
  pub posted : List Posted
  pub happened : List Event
  pub grows : Grows who.group old.out new.out posted happened
  pub acted : Acted meaning came (Some (core_of who.address old.member)) posted happened (Some (core_of who.address new.member))
