use Rattle.std.proofs.Common.{◌≡◌, drop}
use Rattle.std.specs.List.{list_all}
use Rattle.std.specs.Ordering.{nat_cmp}
use Rattle.std.specs.BTreeMap.{get}
use Rattle.world.specs.NodeStates.{node_states_in}
use Rattle.world.specs.Gaps.{is_open_in}
use Rattle.world.proofs.calm.all_are_there.Given as goal

-- those so far are there
abbrev pub invariant-loop-address : goal.invariant-loop-address
invariant-loop-address g l =
    list_all (λ q. is_open_in q l.view.id (node_states_in (get nat_cmp l.node_states) q.node)) l.view.members
    ≡ list_all (λ q. is_open_in q l.view.id (node_states_in (get nat_cmp l.node_states) q.node)) (drop l.address-index l.view.members)
