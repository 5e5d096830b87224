use Rattle.std.proofs.Common.{◌≡◌, sym, ◌∙◌, subst}
use Rattle.std.proofs.lemmas.Option.{same_Some}
use Rattle.std.specs.Ordering.{nat_cmp}
use Rattle.std.specs.BTreeMap.{get}
use Rattle.world.specs.NodeStates.{node_states_in}
use Rattle.world.specs.declared.rounds.Round.{Round}
use Rattle.world.specs.LowProposals.{asked_past}
use Rattle.world.proofs.RoundsRaise.{view-by, none-by}
use Rattle.world.proofs.rounds.overtaking.Goals as goal

-- two rounds come to the view that the test names
pub returns-in-Some-clause-view : goal.returns-in-Some-clause-view
returns-in-Some-clause-view g c =
    view-by (node_states_in (get nat_cmp c.args.node_states.now)) c.args.node c.in-Some.round _ (sym c.in-Some.is ∙ c.in_ok-round_at.ensures) c.rounds_after.ensures.view

-- there is no round
pub returns-in-None-clause-view : goal.returns-in-None-clause-view
returns-in-None-clause-view g c = none-by (node_states_in (get nat_cmp c.args.node_states.now)) c.args.node (sym c.in-None.is ∙ c.in_ok-round_at.ensures)

-- they ask whom the tests name
pub returns-in-Some-clause-asks : goal.returns-in-Some-clause-asks
returns-in-Some-clause-asks g c = λ x at one there.
    let is = same_Some c.in-Some.round one (sym c.in-Some.is ∙ c.in_ok-round_at.ensures ∙ there) in
    subst (λ (r : Round). (x.first ≡ r.asked) × (x.second ≡ asked_past (node_states_in (get nat_cmp c.args.node_states.now)) r.raised)) is (c.rounds_after.ensures.asks x at)
