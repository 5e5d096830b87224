use Rattle.std.proofs.Common.{◌≡◌, subst, refl, arith}
use Rattle.world_model.specs.declared.WorldEvent.TheVariants as event
use Rattle.udp_runs.specs.Carrying.{DoesAt}
use Rattle.udp_runs.proofs.PlacesSet.{at-place, some-at}
use Rattle.udp_runs.proofs.CallsAmongOthers.{goes-line, refused-all, unlisted-so}
use Rattle.udp_runs.proofs.nodes.Nodes.crash.Goals as goal

pub returns-in-None : goal.returns-in-None
returns-in-None g c group =
    refused-all _ _ _ group _ _ c.args.self.now.node_states.items (g.M.NodeMachine.gone c.args.machine.now) _ _ c.args.line _ c.append_refusal.result c.append_refusal.ensures.text
    c.append_refusal.ensures.err
    (unlisted-so _ _ _ group c.args.self.now.node_states.items c.args.line c.number.result c.args.node (event.Crash c.args.node) refl c.in-None.ensures.unlisted c.number.ensures)

pub returns-in-Some : goal.returns-in-Some
returns-in-Some g c group =
    let here = at-place c.args.self.now.node_states.items c.in-Some.index c.index_mut.result.now (omega (arith, c.in-Some.ensures.within, c.args.self.now.node_states.ok.0)) c.index_mut.ensures.value in
    let node = some-at (λ x. x.node ≡ c.args.node) _ c.index_mut.result.now here c.in-Some.ensures.node in
    goes-line _ _ _ group _ _ _ c.args.self.now.node_states.items c.in-Some.index c.index_mut.result.now c.crash.new.self c.args.line (event.Crash c.args.node)
    (g.M.NodeMachine.gone c.args.machine.now) (g.M.NodeMachine.gone c.crash.new.machine) c.args.text.now.items c.crash.new.text.items c.crash.result here
    (λ l n d. subst (λ m. DoesAt g.N.Net.log g.N.Net.failed g.C.Receiver.meaning group c.args.line c.index_mut.result.now (event.Crash m) c.crash.new.self l n) node d)
    (c.crash.ensures group c.args.self.now.node_states.items c.in-Some.index here)
