use Rattle.std.proofs.Common.{◌≡◌, false, None, take}
use Rattle.std.specs.Prelude.{fold, if◌then◌else◌}
use Rattle.std.specs.Option.{option_map_or}
use Rattle.std.specs.Ordering.{nat_cmp}
use Rattle.std.specs.BTreeMap.{get}
use Rattle.flush.specs.Flushes.{is_awaited}
use Rattle.world.specs.NodeStates.{node_states_in}
use Rattle.world.specs.LowProposals.{promised_past, further}
use Rattle.world.proofs.rounds.furthest_awaited.Given as goal

-- of the list so far
abbrev pub invariant-loop-address : goal.invariant-loop-address
invariant-loop-address g l =
    l.best ≡ fold (further (λ q. if option_map_or (λ s. option_map_or (is_awaited q) s.flush false) l.member.member_state false then promised_past l.proposal q (node_states_in (get nat_cmp l.node_states) q.node) else None)) None (take l.address-index l.list)
