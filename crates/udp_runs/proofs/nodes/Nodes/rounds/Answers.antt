use Rattle.std.proofs.Common.{◌≡◌, refl, subst, arith}
use Rattle.udp_runs.specs.Carrying.{None_yet, More, RoundsOf}
use Rattle.udp_runs.proofs.CallsAmongOthers.{goes-none, goes-then, goes-until, goes-like, okay}
use Rattle.udp_runs.proofs.nodes.Nodes.rounds.Goals as goal

pub loop-done-init : goal.loop-done-init
loop-done-init g c group = goes-none _ _ _ group _ _ _ _ _ _ _ refl refl refl None_yet

pub returns-in_err-round : goal.returns-in_err-round
returns-in_err-round g c group =
    goes-until _ _ _ group _ _ (Unit {0}) _ (Unit {0}) _ (λ l n. Unit {0}) _ c.args.self.now.node_states.items c.loop-done.self.node_states.items c.round.new.self.node_states.items
    (g.M.NodeMachine.gone c.args.machine.now) (g.M.NodeMachine.gone c.loop-done.machine) (g.M.NodeMachine.gone c.round.new.machine) c.args.text.now.items c.loop-done.text.items c.round.new.text.items
    tt c.in_err-round.field-0.0 c.from_residual.result c.from_residual.ensures.0 (c.loop-done.invariant group) (c.in_err-round.ensures group)

pub loop-done-preserved : goal.loop-done-preserved
loop-done-preserved g c group =
    goes-then _ _ _ group (Unit {0}) (Unit {0}) (Unit {0}) (Unit {0}) _ _ _ c.args.self.now.node_states.items c.loop-done.self.node_states.items c.round.new.self.node_states.items
    (g.M.NodeMachine.gone c.args.machine.now) (g.M.NodeMachine.gone c.loop-done.machine) (g.M.NodeMachine.gone c.round.new.machine) c.args.text.now.items c.loop-done.text.items c.round.new.text.items tt
    (okay (Unit {0}) (Unit {0}) tt) (λ l m n s d e. More c.loop-done.done c.loop-done.self.node_states.items c.round.new.self.node_states.items l m n s d e) (c.loop-done.invariant group)
    (c.in_ok-round.ensures group)

pub returns : goal.returns
returns g c group =
    let all : c.loop-done.done ≡ c.args.count = omega (arith, c.loop-done-test.false, c.loop-done.auto.done-end) in
    goes-like _ _ _ group (Unit {0}) (Unit {0}) _ _ c.args.self.now.node_states.items c.loop-done.self.node_states.items
    (g.M.NodeMachine.gone c.args.machine.now) (g.M.NodeMachine.gone c.loop-done.machine) c.args.text.now.items c.loop-done.text.items (okay (Unit {0}) (Unit {0}) tt)
    (λ l n d. subst (λ k. RoundsOf g.N.Net.log g.N.Net.failed g.C.Receiver.meaning c.args.self.now.node_states.items k c.loop-done.self.node_states.items l n) all d)
    (c.loop-done.invariant group)
