use Rattle.std.proofs.Common.{Option, ap, ◌∙◌}
use Rattle.std.specs.Ordering.{nat_cmp}
use Rattle.std.specs.BTreeMap.{get}
use Rattle.world.specs.NodeStates.{node_state_at}
use Rattle.world.specs.LowProposals.{promised_past}
use Rattle.world.proofs.rounds.promised_past.Goals as goal

-- what stands at the node of the address
pub returns-in-Some : goal.returns-in-Some
returns-in-Some g c =
    c.promised_past_here.ensures ∙ ap (λ (o : Option _). promised_past c.args.proposal.now c.args.address (node_state_at o)) (c.in-Some.ensures.value ∙ ap (get nat_cmp c.args.node_states.now) c.node.ensures)
