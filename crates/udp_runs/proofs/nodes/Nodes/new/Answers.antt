use Rattle.std.proofs.Common.{subst, sym}
use Rattle.std.specs.List.Sorted.{IsPermutation, IsNonDecreasingBy}
use Rattle.udp_runs.specs.Carrying.{place_of}
use Rattle.udp_runs.proofs.CallsAmongOthers.{unused-more}
use Rattle.udp_runs.proofs.NodesListed.{are-listed, node-more}
use Rattle.udp_runs.proofs.PlacesSet.{at-place}
use Rattle.udp_runs.proofs.nodes.Nodes.new.Goals as goal

pub loop-place-preserved : goal.loop-place-preserved
loop-place-preserved g c = (
  unused-more _ _ c.push.new.self.items c.place-item.result.node c.loop-place.invariant.0 c.new.ensures c.in_ok-push.ensures.items,
  node-more c.as_slice-place-items.result.now c.loop-place.place-index _ _ c.loop-place.node_states.items c.push.new.self.items
      (at-place _ _ _ c.loop-place-test.true c.place-item.is) c.loop-place.invariant.1 c.new.ensures c.in_ok-push.ensures.items,
)

pub returns-clause-listed : goal.returns-clause-listed
returns-clause-listed g c =
    let places = sym c.as_slice-place-items.ensures.value in
    are-listed c.args.settings.now.nodes c.as_slice-place-items.result.now c.loop-place.place-index _
    (subst (IsPermutation c.args.settings.now.nodes) places c.in_ok-places.ensures.all) (subst (IsNonDecreasingBy place_of) places c.in_ok-places.ensures.by_number)
    c.loop-place-test.false c.loop-place.invariant.1
