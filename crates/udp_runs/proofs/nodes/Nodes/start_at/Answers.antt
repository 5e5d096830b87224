use Rattle.std.proofs.Common.{◌≡◌, slice_set, arith, refl, subst, sym}
use Rattle.world_model.specs.declared.WorldEvent.TheVariants as event
use Rattle.udp_runs.specs.Carrying.{DoesAt}
use Rattle.udp_runs.specs.Nodes.{IsFirst, IsNext}
use Rattle.udp_runs.proofs.PlacesSet.{at-place, some-at}
use Rattle.udp_runs.proofs.CallsAmongOthers.{okay, refusing, goes-as, goes-given, goes-line, goes-stopped}
use Rattle.udp_runs.proofs.nodes.Nodes.start_at.Goals as goal

pub returns-in_err-start-in-Ok-clause-goes : goal.returns-in_err-start-in-Ok-clause-goes
returns-in_err-start-in-Ok-clause-goes g c node h =
    let here = at-place c.args.self.now.node_states.items c.args.index c.index_mut.result.now (omega (arith, c.requires.within, c.args.self.now.node_states.ok.0)) c.index_mut.ensures.value in
    let so = some-at (λ x. (x.node ≡ node) × IsNext x c.args.address × IsFirst node c.args.index c.args.self.now.node_states.items) _ c.index_mut.result.now here h in
    goes-as _ _ _ c.args.settings.now.group _ _ (Unit {0}) (Unit {0}) (λ l n. Unit {0}) _ _ _ _ _ _ _ tt c.from_residual.result c.from_residual.ensures.0
    (goes-given _ _ _ c.args.settings.now.group (Unit {0}) (Unit {0}) (λ l n. Unit {0}) c.args.self.now.node_states.items (slice_set c.args.self.now.node_states.items c.args.index c.start.new.self)
    (g.M.NodeMachine.gone c.args.machine.now) (g.M.NodeMachine.gone c.net.new.self) c.args.text.now.items c.start.new.text.items (refusing (Unit {0}) (Unit {0}) tt) c.net.ensures.gone
    (c.in_err-start-in-Ok.ensures c.args.settings.now.group c.args.line (g.M.NodeMachine.gone c.args.machine.now) c.args.self.now.node_states.items c.args.index here so.1
    (subst (λ n. IsFirst n c.args.index c.args.self.now.node_states.items) (sym so.0) so.2) c.in-Ok.ensures.fresh))

pub returns-in_ok-start-in-Ok-clause-goes : goal.returns-in_ok-start-in-Ok-clause-goes
returns-in_ok-start-in-Ok-clause-goes g c node h =
    let here = at-place c.args.self.now.node_states.items c.args.index c.index_mut.result.now (omega (arith, c.requires.within, c.args.self.now.node_states.ok.0)) c.index_mut.ensures.value in
    let so = some-at (λ x. (x.node ≡ node) × IsNext x c.args.address × IsFirst node c.args.index c.args.self.now.node_states.items) _ c.index_mut.result.now here h in
    goes-line _ _ _ c.args.settings.now.group (Unit {0}) (Unit {0}) _ c.args.self.now.node_states.items c.args.index c.index_mut.result.now c.start.new.self c.args.line (event.Start node)
    (g.M.NodeMachine.gone c.args.machine.now) (g.M.NodeMachine.gone c.net.new.self) c.args.text.now.items c.start.new.text.items (okay (Unit {0}) (Unit {0}) tt) here
    (λ l n d. subst (λ m. DoesAt g.N.Net.log g.N.Net.failed g.C.Receiver.meaning c.args.settings.now.group c.args.line c.index_mut.result.now (event.Start m) c.start.new.self l n) so.0 d)
    (goes-given _ _ _ c.args.settings.now.group (Unit {0}) (Unit {0}) _ c.args.self.now.node_states.items (slice_set c.args.self.now.node_states.items c.args.index c.start.new.self)
    (g.M.NodeMachine.gone c.args.machine.now) (g.M.NodeMachine.gone c.net.new.self) c.args.text.now.items c.start.new.text.items (okay (Unit {0}) (Unit {0}) tt) c.net.ensures.gone
    (c.in_ok-start-in-Ok.ensures c.args.settings.now.group c.args.line (g.M.NodeMachine.gone c.args.machine.now) c.args.self.now.node_states.items c.args.index here so.1
    (subst (λ n. IsFirst n c.args.index c.args.self.now.node_states.items) (sym so.0) so.2) c.in-Ok.ensures.fresh))

pub returns-in-Err-clause-goes : goal.returns-in-Err-clause-goes
returns-in-Err-clause-goes g c node h = goes-stopped _ _ _ c.args.settings.now.group (Unit {0}) (Unit {0}) (λ l n. Unit {0}) _ c.args.self.now.node_states.items (g.M.NodeMachine.gone c.args.machine.now) (g.M.NodeMachine.gone c.args.machine.now) _ _ tt refl
