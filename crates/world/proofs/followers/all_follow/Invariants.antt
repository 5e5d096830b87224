use Rattle.std.proofs.Common.{◌≡◌, drop}
use Rattle.std.specs.List.{list_all}
use Rattle.std.specs.Ordering.{nat_cmp}
use Rattle.std.specs.BTreeMap.{get}
use Rattle.world.specs.NodeStates.{node_states_in}
use Rattle.world.specs.Settles.{would_follow}
use Rattle.world.proofs.followers.all_follow.Given as goal

-- those so far would follow
abbrev pub invariant-loop-address : goal.invariant-loop-address
invariant-loop-address g l =
    list_all (λ q. would_follow l.proposal q (node_states_in (get nat_cmp l.node_states) q.node)) l.proposal.members
    ≡ list_all (λ q. would_follow l.proposal q (node_states_in (get nat_cmp l.node_states) q.node)) (drop l.address-index l.proposal.members)
