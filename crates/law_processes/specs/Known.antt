-- What the processes of a deployment know that run, and that their copies of the state agree.
use Rattle.std.specs.Prelude.{◌≡◌, ℕ, List, Some, Err}
use Rattle.std.specs.Option.{IsSomeAnd}
use Rattle.address.specs.Ids.{Address, ViewId}
use Rattle.address.specs.declared.refusal.Refusal.TheVariants.{Closed}
use Rattle.state_transfer.specs.Meanings.{Meaning}
use Rattle.trace_props.specs.Places.{EachPlace}
use Rattle.law_processes.specs.Replicas.{ReplicasAgree}
use Rattle.law_acts.specs.Cores.{Core, id_of}
use Rattle.law_acts.specs.Known.{Knows}
use Rattle.member.specs.declared.error.Error.TheVariants.{Refused}
use Rattle.member.specs.declared.input.Input.{Input}
use Rattle.member.specs.Handling.{Handled}
use Rattle.member.specs.Members.{MemberModel, core_of}
use Rattle.law_processes.specs.Deployments.{Step, IsHistory, MayBeHanded, nothing_yet, after_steps, trace_of}

-- each member that runs in a deployment has not ended, and knows so
abbrev pub MembersKnow : {S : Type 0} → Meaning S → Type 0
MembersKnow {S} meaning = (group : List ℕ) (steps : List (Step S)) → IsHistory meaning group steps → (p : Address) (m : MemberModel S)
    → (after_steps nothing_yet steps).members p ≡ Some m → IsSomeAnd (core_of m) (Knows meaning (trace_of steps) p)

-- a member that runs in a view, with so much of it delivered, and its receiver in this state
pub record StandsAt {S : Type 0} (m : MemberModel S) (v : ViewId) (n : ℕ) (s : S) : Type 0 where
  pub core : Core S
  pub runs : core_of m ≡ Some core
  pub view : id_of core.view ≡ Some v
  pub delivered : core.view_state.delivered ≡ n
  pub state : core.state ≡ s

-- SAME STATE: of two processes in one view that have delivered as much of it, the receivers are in the same state
abbrev pub ProcessesAgree : {S : Type 0} → Meaning S → Type 0
ProcessesAgree {S} meaning = (group : List ℕ) (steps : List (Step S)) → IsHistory meaning group steps → (p q : Address) (m k : MemberModel S) (v : ViewId) (n : ℕ) (s z : S)
    → (after_steps nothing_yet steps).members p ≡ Some m → (after_steps nothing_yet steps).members q ≡ Some k → StandsAt m v n s → StandsAt k v n z → s ≡ z

-- copies agree at every place, of members that have ended too
abbrev pub CopiesAgree : {S : Type 0} → Meaning S → Type 0
CopiesAgree {S} meaning = (group : List ℕ) (steps : List (Step S)) → IsHistory meaning group steps → EachPlace (ReplicasAgree meaning) (trace_of steps)

-- NEVER CLOSED: on what it may be handed, a member that runs never answers that it has ended (6), since each state that it is given can be read
abbrev pub NeverClosed : {S : Type 0} → Meaning S → Type 0
NeverClosed {S} meaning = (group : List ℕ) (steps : List (Step S)) → IsHistory meaning group steps → (p : Address) (m left : MemberModel S) (input : Input)
    → (after_steps nothing_yet steps).members p ≡ Some m → MayBeHanded group (after_steps nothing_yet steps).offered input → Handled meaning m input (Err (Refused Closed)) left → ⊥
