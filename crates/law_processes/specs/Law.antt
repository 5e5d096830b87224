-- The law of deployments.
use Rattle.std.specs.Prelude.{◌≡◌, ℕ, Bool, true, false, List, None}
use Rattle.std.specs.List.{filter}
use Rattle.address.specs.Ids.{Address}
use Rattle.state_transfer.specs.Meanings.{Meaning}
use Rattle.trace_props.specs.declared.event.Event.{Event}
use Rattle.trace_props.specs.declared.event.Event.TheVariants.{Started, Sent, Delivered, Blocked, Installed, Left, Crashed}
use Rattle.trace_props.specs.Synchrony.{IsVirtuallySynchronous}
use Rattle.law_processes.specs.Deployments.{Step, IsHistory, trace_of, EachStep, DoesSo, StartsOnce, HandsOver, nothing_yet}
use Rattle.law_processes.specs.Processes.{RunsFrom, own_steps, all_told}

-- what happened in a deployment is virtually synchronous, at every place
abbrev pub AreSynchronous : {S : Type 0} → Meaning S → Type 0
AreSynchronous {S} meaning = (group : List ℕ) (steps : List (Step S)) → IsHistory meaning group steps → IsVirtuallySynchronous meaning (trace_of steps)

-- the same where of each address the steps of its own are a process: so what each process did is all that is asked of what was done
pub record IsMerged {S : Type 0} (meaning : Meaning S) (group : List ℕ) (steps : List (Step S)) : Type 0 where
  pub processes : (p : Address) → RunsFrom meaning group None (own_steps p steps)
  pub once : EachStep StartsOnce nothing_yet steps
  pub network : EachStep (HandsOver group) nothing_yet steps

abbrev pub MergedAreSynchronous : {S : Type 0} → Meaning S → Type 0
MergedAreSynchronous {S} meaning = (group : List ℕ) (steps : List (Step S)) → IsMerged meaning group steps → IsVirtuallySynchronous meaning (trace_of steps)

-- ---- what members tell

-- no member tells that one starts, nor that one crashes
abbrev pub is_told : Event → Bool
is_told (Started p) = false
is_told (Sent s) = true
is_told (Delivered d) = true
is_told (Blocked p) = true
is_told (Installed i) = true
is_told (Left p) = true
is_told (Crashed p) = false

abbrev pub but_starts_and_crashes : List Event → List Event
but_starts_and_crashes events = filter is_told events

-- they tell all else that happened, in its order, and nothing more
abbrev pub TellAll : {S : Type 0} → Meaning S → Type 0
TellAll {S} meaning = (group : List ℕ) (steps : List (Step S)) → EachStep (DoesSo meaning group) nothing_yet steps → but_starts_and_crashes (trace_of steps) ≡ all_told steps
