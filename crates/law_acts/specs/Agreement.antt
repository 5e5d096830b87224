-- The law: after any list of steps, each allowed after those before, the invariant holds, and the trace is virtually synchronous.
use Rattle.std.specs.Prelude.{◌≡◌, ℕ, Option, None, Some, List}
use Rattle.address.specs.Ids.{Address}
use Rattle.state_transfer.specs.Meanings.{Meaning}
use Rattle.trace_props.specs.Synchrony.{IsVirtuallySynchronous}
use Rattle.trace_props.specs.declared.event.Event.{Event}
use Rattle.wire_values.specs.Posted.{Posted}
use Rattle.law_acts.specs.Cores.{Core}
use Rattle.law_acts.specs.Steps.{System, Step, MayRun, nothing_yet, after_steps, put, came_of, grown}
use Rattle.law_acts.specs.Chains.{Acted}
use Rattle.law_acts.specs.Invariant.{Kept}

abbrev pub KeepsInvariant : {S : Type 0} → Meaning S → Type 0
KeepsInvariant meaning = (steps : List Step) → MayRun meaning nothing_yet steps → Kept meaning (after_steps meaning nothing_yet steps)

-- all eight rules at every place, within the events of a step too
abbrev pub IsAlwaysSynchronous : {S : Type 0} → Meaning S → Type 0
IsAlwaysSynchronous meaning = (steps : List Step) → MayRun meaning nothing_yet steps
    → IsVirtuallySynchronous meaning (after_steps meaning nothing_yet steps).history.trace

-- what a member did in one call: acts, on a packet of the pool that it was handed, or on none
abbrev pub ActsKeep : {S : Type 0} → Meaning S → Type 0
ActsKeep {S} meaning = (s : System S) (p : Address) (c : Core S) (end : Option (Core S)) (which : Option ℕ) (came : Option Posted) (packets : List Posted)
    (events : List Event) → Kept meaning s → s.running p ≡ Some c → came ≡ came_of c s.history.pool which → (came ≡ None → which ≡ None)
    → Acted meaning came (Some c) packets events end
    → Kept meaning (record { running = put p end s.running; history = grown s.history packets events })
