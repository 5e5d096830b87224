-- What the trace of a deployment carries, beside what the rules say of it.
use Rattle.std.specs.Prelude.{◌≡◌, ℕ, ◌≤◌, List, None, Some, length, slice_get}
use Rattle.address.specs.Ids.{IsAddress}
use Rattle.address.specs.declared.limits.TheConstants.{PAYLOAD}
use Rattle.state_transfer.specs.Meanings.{Meaning}
use Rattle.trace_props.specs.declared.event.Event.TheVariants.{Delivered, Installed}
use Rattle.trace_props.specs.declared.event.Delivery.{Delivery}
use Rattle.trace_props.specs.declared.event.Install.{Install}
use Rattle.law_processes.specs.Deployments.{Step, IsHistory, trace_of}

-- what is delivered is short, and an address sent it
abbrev pub DeliverShort : {S : Type 0} → Meaning S → Type 0
DeliverShort {S} meaning = (group : List ℕ) (steps : List (Step S)) → IsHistory meaning group steps
    → (k : ℕ) (d : Delivery) → slice_get (trace_of steps) k ≡ Some (Delivered d) → IsAddress d.message.sender × (length d.message.payload ≤ PAYLOAD)

-- the coordinator of a view enters it with the state that it has: it is given none
abbrev pub CoordinatorsKeepTheirs : {S : Type 0} → Meaning S → Type 0
CoordinatorsKeepTheirs {S} meaning = (group : List ℕ) (steps : List (Step S)) → IsHistory meaning group steps
    → (k : ℕ) (i : Install) → slice_get (trace_of steps) k ≡ Some (Installed i) → i.member ≡ i.view.id.creator → i.given ≡ None
