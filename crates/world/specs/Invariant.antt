-- What every world keeps between events: its history is faithful, it is a deployment, and each node is as the history says.
use Rattle.std.specs.Prelude.{◌≡◌, ℕ, ◌≤◌, Bool, true, Option, None, Some, List, length}
use Rattle.std.specs.Option.{IsSomeAnd, option_map_or}
use Rattle.address.specs.Ids.{Address}
use Rattle.state_transfer.specs.Meanings.{Meaning}
use Rattle.trace_props.specs.declared.event.Event.{Event}
use Rattle.trace_props.specs.Observed.{has_started, has_ended}
use Rattle.law_processes.specs.Deployments.{IsPlayed}
use Rattle.member.specs.Members.{MemberModel, core_of}
use Rattle.world_model.specs.Histories.{History, last_of, is_connected}
use Rattle.world_model.specs.Faithful.{IsFaithful}
use Rattle.world_model.specs.Packets.{world_group}
use Rattle.world.specs.declared.node_state.NodeState.{NodeState}
use Rattle.world.specs.declared.node_state.NodeState.TheVariants.{Vacant, Ended, Running}
use Rattle.world.specs.NodeStates.{deployment_of}

-- a member runs, and is connected as the answers to its node's events say
abbrev pub IsMember : {S : Type 0} → Bool → MemberModel S → Type 0
IsMember connected m = IsSomeAnd (core_of m) (λ c. connected ≡ c.connected)

-- the history says of a node what stands there: the last member there is given by `last`
abbrev pub IsNodeStateOf : {S : Type 0} → ℕ → Option Address → Bool → List Event → NodeState S → Type 0
IsNodeStateOf n last connected t Vacant = last ≡ None
IsNodeStateOf n last connected t (Ended p) = (last ≡ Some p) × (p.node ≡ n) × (has_ended p t ≡ true)
IsNodeStateOf n last connected t (Running m) = (last ≡ Some m.address) × (m.address.node ≡ n) × IsMember connected m

-- the greatest incarnation of a node so far, 0 for none
abbrev pub top_of : ℕ → List Event → ℕ
top_of n t = option_map_or (λ (p : Address). p.incarnation) (last_of n t) 0

-- who started has no later incarnation than its node's last
abbrev pub StartsInTurn : List Event → Type 0
StartsInTurn t = (p : Address) → has_started p t ≡ true → p.incarnation ≤ top_of p.node t

-- its history is faithful, the deployment that it is was played, and each node is as the history says
pub record IsWorld {S : Type 0} (meaning : Meaning S) (at : ℕ → NodeState S) (h : History) : Type 0 where
  pub faithful : IsFaithful h
  pub paired : length h.events ≡ length h.replies
  pub played : IsPlayed meaning world_group (deployment_of at h.pool h.trace)
  pub starts : StartsInTurn h.trace
  pub node_states : (n : ℕ) → IsNodeStateOf n (last_of n h.trace) (is_connected n h) h.trace (at n)
