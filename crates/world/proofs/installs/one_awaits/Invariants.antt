use Rattle.std.proofs.Common.{◌≡◌, drop}
use Rattle.std.specs.List.{list_any}
use Rattle.std.specs.Ordering.{nat_cmp}
use Rattle.std.specs.BTreeMap.{get}
use Rattle.world.specs.NodeStates.{node_states_in}
use Rattle.world.specs.LostInstalls.{awaits_install}
use Rattle.world.proofs.installs.one_awaits.Given as goal

-- none of those so far awaits it
abbrev pub invariant-loop-address : goal.invariant-loop-address
invariant-loop-address g l =
    list_any (awaits_install (node_states_in (get nat_cmp l.node_states)) l.node l.view) l.view.members
    ≡ list_any (awaits_install (node_states_in (get nat_cmp l.node_states)) l.node l.view) (drop l.address-index l.view.members)
