use Rattle.std.proofs.Common.{Ok, ◌≡◌, ◌<◌, length, refl, ◌∙◌, arith}
use Rattle.world_model.specs.declared.WorldEvent.TheVariants as event
use Rattle.udp_runs.specs.Nodes.{IsFirst, IsNext}
use Rattle.udp_runs.proofs.PlacesSet.{at-place, some-at, some-of}
use Rattle.udp_runs.proofs.CallsAmongOthers.{refused-all, stopped-by, unlisted-so, unstarted-there}
use Rattle.udp_runs.proofs.nodes.Nodes.start.Goals as goal

pub returns-in_err-append_refusal-clause-goes : goal.returns-in_err-append_refusal-clause-goes
returns-in_err-append_refusal-clause-goes g c =
    stopped-by _ _ _ c.args.settings.now.group _ _ _ c.args.self.now.node_states.items _ (g.M.NodeMachine.gone c.args.machine.now) _ _ _ c.from_residual.result c.from_residual.ensures.0 c.in_err-append_refusal.ensures.err

pub returns-in_default-clause-goes : goal.returns-in_default-clause-goes
returns-in_default-clause-goes g c =
    refused-all _ _ _ c.args.settings.now.group (Unit {0}) _ c.args.self.now.node_states.items (g.M.NodeMachine.gone c.args.machine.now) _ _ c.args.line _ (Ok tt) c.in_ok-append_refusal.ensures.text tt
    (unlisted-so _ _ _ c.args.settings.now.group c.args.self.now.node_states.items c.args.line _ c.args.node (event.Start c.args.node) refl c.in_default.ensures.unlisted c.number.ensures)

pub returns-in_err-append_refusal-in-Err-clause-goes : goal.returns-in_err-append_refusal-in-Err-clause-goes
returns-in_err-append_refusal-in-Err-clause-goes g c =
    stopped-by _ _ _ c.args.settings.now.group _ _ _ c.args.self.now.node_states.items _ (g.M.NodeMachine.gone c.args.machine.now) _ _ _ c.from_residual-in_err-append_refusal-in-Err.result c.from_residual-in_err-append_refusal-in-Err.ensures.0 c.in_err-append_refusal-in-Err.ensures.err

pub returns-in-Ok-clause-goes : goal.returns-in-Ok-clause-goes
returns-in-Ok-clause-goes g c =
    let items = c.args.self.now.node_states.items in
    let within : c.in-Some.index < length items = omega (arith, c.in-Some.ensures.within, c.args.self.now.node_states.ok.0) in
    let here = at-place items c.in-Some.index c.index.result.now within c.index.ensures in
    let node = some-at (λ x. x.node ≡ c.args.node) _ c.index.result.now here c.in-Some.ensures.node in
    c.start_at.ensures.goes c.args.node
    (some-of (λ x. (x.node ≡ c.args.node) × IsNext x c.in-Ok.address × IsFirst c.args.node c.in-Some.index items) _ c.index.result.now here
    (node, c.in-Ok.ensures.ok, c.in-Some.ensures.first))

pub returns-in-Ok-clause-stops : goal.returns-in-Ok-clause-stops
returns-in-Ok-clause-stops g c = c.start_at.ensures.stops c.args.node

pub returns-in_ok-append_refusal-in-Err-clause-goes : goal.returns-in_ok-append_refusal-in-Err-clause-goes
returns-in_ok-append_refusal-in-Err-clause-goes g c =
    let items = c.args.self.now.node_states.items in
    let within : c.in-Some.index < length items = omega (arith, c.in-Some.ensures.within, c.args.self.now.node_states.ok.0) in
    let here = at-place items c.in-Some.index c.index.result.now within c.index.ensures in
    let node = some-at (λ x. x.node ≡ c.args.node) _ c.index.result.now here c.in-Some.ensures.node in
    refused-all _ _ _ c.args.settings.now.group (Unit {0}) _ c.args.self.now.node_states.items (g.M.NodeMachine.gone c.args.machine.now) _ _ c.args.line _ (Ok tt) c.in_ok-append_refusal-in-Err.ensures.text tt
    (unstarted-there _ _ _ c.args.settings.now.group items c.in-Some.index c.index.result.now c.args.line _ c.args.node here node c.in-Err.ensures.full (c.number-in-Err.ensures ∙ c.in-Err.ensures.err))
