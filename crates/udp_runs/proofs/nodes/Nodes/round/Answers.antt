use Rattle.std.proofs.Common.{◌≡◌, refl, ◌∙◌, length, slice_set, subst, arith}
use Rattle.udp_runs.specs.Carrying.{Begun, Next, RoundOf}
use Rattle.udp_runs.proofs.PlacesSet.{at-place, length-set}
use Rattle.udp_runs.proofs.CallsAmongOthers.{goes-none, goes-then, goes-until, goes-like, okay}
use Rattle.udp_runs.proofs.nodes.Nodes.round.Goals as goal

pub loop-index-init : goal.loop-index-init
loop-index-init g c = (refl, λ group. goes-none _ _ _ group _ _ _ _ _ _ _ refl refl refl Begun)

pub returns-in_err-round : goal.returns-in_err-round
returns-in_err-round g c group =
    goes-until _ _ _ group _ _ (Unit {0}) _ (Unit {0}) _ (λ l n. Unit {0}) _ c.args.self.now.node_states.items c.loop-index.self.node_states.items
    (slice_set c.loop-index.self.node_states.items c.loop-index.index c.round.new.self)
    (g.M.NodeMachine.gone c.args.machine.now) (g.M.NodeMachine.gone c.loop-index.machine) (g.M.NodeMachine.gone c.round.new.machine) c.args.text.now.items c.loop-index.text.items c.round.new.text.items
    tt c.in_err-round.field-0.0 c.from_residual.result c.from_residual.ensures.0 (c.loop-index.invariant.1 group)
    (c.in_err-round.ensures group c.loop-index.self.node_states.items c.loop-index.index
    (at-place c.loop-index.self.node_states.items c.loop-index.index c.index_mut.result.now (omega (arith, c.loop-index-test.true, c.len-index-end.ensures, c.loop-index.invariant.0, c.args.self.now.node_states.ok.0)) c.index_mut.ensures.value))

pub loop-index-preserved : goal.loop-index-preserved
loop-index-preserved g c = (
  length-set c.loop-index.self.node_states.items c.loop-index.index c.round.new.self ∙ c.loop-index.invariant.0,
  λ group.
      let here = at-place c.loop-index.self.node_states.items c.loop-index.index c.index_mut.result.now
      (omega (arith, c.loop-index-test.true, c.len-index-end.ensures, c.loop-index.invariant.0, c.args.self.now.node_states.ok.0)) c.index_mut.ensures.value in
      goes-then _ _ _ group (Unit {0}) (Unit {0}) (Unit {0}) (Unit {0}) _ _ _ c.args.self.now.node_states.items c.loop-index.self.node_states.items
      (slice_set c.loop-index.self.node_states.items c.loop-index.index c.round.new.self)
      (g.M.NodeMachine.gone c.args.machine.now) (g.M.NodeMachine.gone c.loop-index.machine) (g.M.NodeMachine.gone c.round.new.machine) c.args.text.now.items c.loop-index.text.items c.round.new.text.items tt
      (okay (Unit {0}) (Unit {0}) tt) (λ l m n s d e. Next c.loop-index.index c.loop-index.self.node_states.items l n c.index_mut.result.now c.round.new.self m s d here e)
      (c.loop-index.invariant.1 group) (c.in_ok-round.ensures group c.loop-index.self.node_states.items c.loop-index.index here),
)

pub returns : goal.returns
returns g c group =
    let all : c.loop-index.index ≡ length c.args.self.now.node_states.items = omega (arith, c.loop-index-test.false, c.loop-index.auto.index-end, c.len-index-end.ensures) in
    goes-like _ _ _ group (Unit {0}) (Unit {0}) _ _ c.args.self.now.node_states.items c.loop-index.self.node_states.items
    (g.M.NodeMachine.gone c.args.machine.now) (g.M.NodeMachine.gone c.loop-index.machine) c.args.text.now.items c.loop-index.text.items (okay (Unit {0}) (Unit {0}) tt)
    (λ l n d. subst (λ k. RoundOf g.N.Net.log g.N.Net.failed g.C.Receiver.meaning c.args.self.now.node_states.items k c.loop-index.self.node_states.items l n) all d)
    (c.loop-index.invariant.1 group)
