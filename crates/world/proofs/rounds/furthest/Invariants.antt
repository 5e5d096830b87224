use Rattle.std.proofs.Common.{◌≡◌, None, take}
use Rattle.std.specs.Prelude.{fold}
use Rattle.std.specs.Ordering.{nat_cmp}
use Rattle.std.specs.BTreeMap.{get}
use Rattle.world.specs.NodeStates.{node_states_in}
use Rattle.world.specs.LowProposals.{promised_past, further}
use Rattle.world.proofs.rounds.furthest.Given as goal

-- of the list so far
abbrev pub invariant-loop-address : goal.invariant-loop-address
invariant-loop-address g l = l.best ≡ fold (further (λ q. promised_past l.proposal q (node_states_in (get nat_cmp l.node_states) q.node))) None (take l.address-index l.proposal.members)
