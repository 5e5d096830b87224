-- What the members of a world know that run, and how much of their views is stable.
use Rattle.std.specs.Prelude.{◌≡◌, ℕ, List, Option, None, Some}
use Rattle.std.specs.Option.{IsSomeAnd, ForSome, option_map_or, option_and_then}
use Rattle.view.specs.Members.{View}
use Rattle.state_transfer.specs.Meanings.{Meaning}
use Rattle.trace_props.specs.declared.event.Event.{Event}
use Rattle.trace_props.specs.Observed.{current_view}
use Rattle.law_acts.specs.Known.{AllDelivered, Knows}
use Rattle.law_acts.specs.Members.{installed_as}
use Rattle.member.specs.Members.{MemberModel, core_of}
use Rattle.world_model.specs.Histories.{running}
use Rattle.world.specs.declared.node_state.NodeState.{NodeState}
use Rattle.world.specs.declared.node_state.NodeState.TheVariants.{Vacant, Ended, Running}
use Rattle.world.specs.Worlds.{WorldModel}

-- each member that runs at a node has not ended, and knows what the trace says
abbrev pub MembersKnow : {S : Type 0} → Meaning S → WorldModel S → Type 0
MembersKnow {S} meaning w = (n : ℕ) (m : MemberModel S) → w.node_states n ≡ Running m → IsSomeAnd (core_of m) (Knows meaning w.history.trace m.address)

-- how many messages of its view the member that runs at a node knows to be stable: 0 without a view
abbrev pub stable_at : {S : Type 0} → NodeState S → Option ℕ
stable_at Vacant = None
stable_at (Ended p) = None
stable_at (Running m) = Some (option_map_or (λ c. c.view_state.stable) (core_of m) 0)

-- the view in which that member is, as the trace says
abbrev pub view_at : ℕ → List Event → Option View
view_at n t = option_and_then (λ p. option_and_then (λ v. installed_as p v t) (current_view p t)) (running n t)

-- STABLE AT A NODE: each member of that view has delivered so many of its messages, the first of its order
abbrev pub IsStableAt : ℕ → List Event → ℕ → Type 0
IsStableAt n t count = ForSome (view_at n t) (λ v. AllDelivered t v count)
