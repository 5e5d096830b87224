use Rattle.std.proofs.Common.{refl, sym, ap, ◌∙◌}
use Rattle.udp_runs.proofs.CallsAmongOthers.{refused, uncrashed-so, killed}
use Rattle.udp_runs.proofs.node_state.NodeState.crash.Goals as goal

pub returns-in_default : goal.returns-in_default
returns-in_default g c group states k here gone lines nets x =
    let same = ap (λ o. record { node = c.args.self.now.node; last = c.args.self.now.last; process = o }) (c.in_default.ensures.after ∙ c.in_default.ensures.value) in
    refused _ _ _ group _ c.args.self.now _ _ _ _ _ c.args.line c.number.result c.append_refusal.result same refl
    c.append_refusal.ensures.text c.append_refusal.ensures.err
    (uncrashed-so _ _ _ group c.args.line c.number.result c.args.self.now _ same (sym c.in_default.ensures.value) (c.number.ensures ∙ c.absence.ensures)) states k here gone lines nets x

pub returns : goal.returns
returns g c group states k here gone lines nets x =
    killed _ _ _ group c.args.line c.args.self.now _ c.in-Some.process _ _ _ _ c.append_event.result (sym c.in-Some.ensures.value)
    (ap (λ o. record { node = c.args.self.now.node; last = c.args.self.now.last; process = o }) c.in-Some.ensures.after) c.close.ensures
    c.append_event.ensures.text c.append_event.ensures.err states k here gone lines nets x
