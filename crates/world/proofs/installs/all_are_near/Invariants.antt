use Rattle.std.proofs.Common.{◌≡◌, drop}
use Rattle.std.specs.Prelude.{◌||◌}
use Rattle.std.specs.List.{list_all}
use Rattle.std.specs.Ordering.{nat_cmp}
use Rattle.std.specs.BTreeMap.{get}
use Rattle.world.specs.NodeStates.{node_states_in}
use Rattle.world.specs.LostInstalls.{awaits_install, is_inside}
use Rattle.world.proofs.installs.all_are_near.Given as goal

-- those so far are near
abbrev pub invariant-loop-address : goal.invariant-loop-address
invariant-loop-address g l =
    list_all (λ q. is_inside l.view q (node_states_in (get nat_cmp l.node_states) q.node) || awaits_install (node_states_in (get nat_cmp l.node_states)) l.node l.view q) l.view.members
    ≡ list_all (λ q. is_inside l.view q (node_states_in (get nat_cmp l.node_states) q.node) || awaits_install (node_states_in (get nat_cmp l.node_states)) l.node l.view q) (drop l.address-index l.view.members)
