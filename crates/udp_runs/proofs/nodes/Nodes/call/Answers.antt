use Rattle.std.proofs.Common.{◌≡◌, sym, subst, ◌∙◌, arith}
use Rattle.udp_runs.specs.Calls.{Asks}
use Rattle.udp_runs.proofs.PlacesSet.{at-place, some-at}
use Rattle.udp_runs.proofs.CallsAmongOthers.{asked-of, goes-line, refused-all, unlisted-so}
use Rattle.udp_runs.proofs.nodes.Nodes.call.Goals as goal

pub returns-in-None : goal.returns-in-None
returns-in-None g c asked asks =
    let of = asked-of asked c.args.node c.args.call.now asks in
    refused-all _ _ _ c.args.settings.now.group _ _ c.args.self.now.node_states.items (g.M.NodeMachine.gone c.args.machine.now) _ _ c.args.line _ c.append_refusal.result c.append_refusal.ensures.text
    c.append_refusal.ensures.err
    (unlisted-so _ _ _ c.args.settings.now.group c.args.self.now.node_states.items c.args.line c.number.result c.args.node asked of.0 c.in-None.ensures.unlisted (c.number.ensures ∙ sym of.1))

pub returns-in-Some : goal.returns-in-Some
returns-in-Some g c asked asks =
    let here = at-place c.args.self.now.node_states.items c.in-Some.index c.index_mut.result.now (omega (arith, c.in-Some.ensures.within, c.args.self.now.node_states.ok.0)) c.index_mut.ensures.value in
    let node = some-at (λ x. x.node ≡ c.args.node) _ c.index_mut.result.now here c.in-Some.ensures.node in
    goes-line _ _ _ c.args.settings.now.group _ _ _ c.args.self.now.node_states.items c.in-Some.index c.index_mut.result.now c.call.new.self c.args.line asked
    (g.M.NodeMachine.gone c.args.machine.now) (g.M.NodeMachine.gone c.call.new.machine) c.args.text.now.items c.call.new.text.items c.call.result here (λ l n d. d)
    ((rw (c.as_slice.ensures.bytes ∙ c.group.ensures) at c.call.ensures) asked (subst (λ n. Asks asked n c.args.call.now) (sym node) asks) c.args.self.now.node_states.items c.in-Some.index here)
