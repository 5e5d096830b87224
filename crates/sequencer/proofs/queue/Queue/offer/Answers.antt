use Rattle.std.proofs.Common.{◌≡◌, ℕ, true, sym, ap, ◌∙◌}
use Rattle.trace_props.specs.declared.event.Numbered.{Numbered}
use Rattle.sequencer.specs.Queues.{Queue, takes, offered}
use Rattle.sequencer.proofs.Slots.{queue_of, filled-ring, filled-offered}
use Rattle.sequencer.proofs.queue.Queue.offer.Goals as goal

pub invariant_of-self : goal.invariant_of-self
invariant_of-self c =
    let f : Numbered = record { number = c.get-number.result; payload = c.args.payload } in
    let q : Queue = queue_of c.self.inside.sender c.self.inside.ordered c.self.inside.slots in
    let t : takes f.number q ≡ true = ap (takes f.number) c.self.view_is ∙ sym c.takes.ensures ∙ c.if-not-takes.false in
    filled-ring c.self.inside.sender c.self.inside.ordered f c.self.inside.slots c.fill.new.slots c.self.invariant (record { taken = t; after = c.fill.ensures }) c.get-number.ensures.in_range.1

pub returns-clause-after : goal.returns-clause-after
returns-clause-after c =
    let f : Numbered = record { number = c.get-number.result; payload = c.args.payload } in
    let q : Queue = queue_of c.self.inside.sender c.self.inside.ordered c.self.inside.slots in
    let t : takes f.number q ≡ true = ap (takes f.number) c.self.view_is ∙ sym c.takes.ensures ∙ c.if-not-takes.false in
    filled-offered c.self.inside.sender c.self.inside.ordered f c.self.inside.slots c.fill.new.slots c.self.invariant (record { taken = t; after = c.fill.ensures })
    ∙ ap (λ (n : ℕ). offered n c.args.payload q) c.get-number.ensures.value ∙ ap (offered c.args.number c.args.payload) c.self.view_is
