-- What stands at the nodes of a world, and the deployment that it is.
use Rattle.std.specs.Prelude.{ℕ, List, [], ◌∷◌, Option, None, Some, unwrap_or, if◌then◌else◌}
use Rattle.address.specs.Ids.{Address, same_address}
use Rattle.trace_props.specs.declared.event.Event.{Event}
use Rattle.trace_props.specs.declared.event.Event.TheVariants.{Started, Delivered, Blocked, Installed, Left, Crashed}
use Rattle.trace_props.specs.declared.event.Event.TheVariants as event
use Rattle.member.specs.declared.error.Error.{Error}
use Rattle.member.specs.declared.error.Error.TheVariants as error
pub use Rattle.member.specs.Errors.{is_closed}
use Rattle.member.specs.Members.{MemberModel}
pub use Rattle.law_processes.specs.Deployments.{bytes_of}
use Rattle.law_processes.specs.Deployments.{Deployment}
use Rattle.world_model.specs.declared.Answer.{Answer}
use Rattle.world_model.specs.declared.Answer.TheVariants.{Done, Sent, Refused}
use Rattle.world.specs.declared.node_state.NodeState.{NodeState}
use Rattle.world.specs.declared.node_state.NodeState.TheVariants.{Vacant, Ended, Running}

-- ---- answers

-- what an event is answered whose input was refused so
abbrev pub answer_for : Error → Answer
answer_for (error.Refused r) = Refused r
answer_for (error.Wire e) = Done

-- what an event is answered by which these happened: a message that was sent comes first
abbrev pub answer_to : List Event → Answer
answer_to [] = Done
answer_to (Started p ∷ rest) = Done
answer_to (event.Sent s ∷ rest) = Sent s.message.number
answer_to (Delivered d ∷ rest) = Done
answer_to (Blocked p ∷ rest) = Done
answer_to (Installed i ∷ rest) = Done
answer_to (Left p ∷ rest) = Done
answer_to (Crashed p ∷ rest) = Done

-- ---- nodes

-- what stands at a node: nothing where the node is not kept
abbrev pub node_state_at : {S : Type 0} → Option (NodeState S) → NodeState S
node_state_at o = unwrap_or o Vacant

abbrev pub node_states_in : {S : Type 0} → (ℕ → Option (NodeState S)) → ℕ → NodeState S
node_states_in at n = node_state_at (at n)

-- the member that runs at a node, if it has this address
abbrev pub member_here : {S : Type 0} → Address → NodeState S → Option (MemberModel S)
member_here p Vacant = None
member_here p (Ended q) = None
member_here p (Running m) = if same_address p m.address then Some m else None

-- the deployment that a world is: the members at these nodes, the packets of the pool, what happened
abbrev pub deployment_of : {S : Type 0} → (ℕ → NodeState S) → List (List ℕ) → List Event → Deployment S
deployment_of at pool t = record { members = λ p. member_here p (at p.node); offered = pool; trace = t }
