use Rattle.std.proofs.Common.{Bool, refl, sym, ◌∙◌}
use Rattle.udp_runs.specs.Carrying.{Called}
use Rattle.udp_runs.specs.Calls.{MakesCall}
use Rattle.udp_runs.proofs.CallsAmongOthers.{refused, uncalled-so, turn-on, turn-off, turn-cut}
use Rattle.udp_runs.proofs.node_state.NodeState.call.Goals as goal

pub returns-in_default : goal.returns-in_default
returns-in_default g c asked asks states k here gone lines nets x =
    refused _ _ _ c.args.group.now _ c.args.self.now _ _ _ _ _ c.args.line c.number.result c.append_refusal.result refl refl c.append_refusal.ensures.text c.append_refusal.ensures.err
    (uncalled-so _ _ _ c.args.group.now c.args.line c.number.result c.args.self.now c.args.self.now refl asked c.args.call.now asks (sym c.in_default.ensures.value) (c.number.ensures ∙ c.absence.ensures))
    states k here gone lines nets x

pub returns-in_err-call : goal.returns-in_err-call
returns-in_err-call g c asked asks states k here gone lines nets x =
    turn-cut _ _ _ c.args.group.now _ Bool _ _ (MakesCall g.C.Receiver.meaning c.args.group.now c.args.call.now) c.args.line c.args.self.now _ c.in-Some.process.now c.call.new.self
    (sym c.in-Some.ensures.value) _ _ _ _ _ c.in_err-call.field-0.0 _ c.from_residual.ensures.0
    (c.in_err-call.ensures.turn (x.runs k c.args.self.now c.in-Some.process.now here (sym c.in-Some.ensures.value)).2) states k here gone lines nets x

pub returns-then-not-branch : goal.returns-then-not-branch
returns-then-not-branch g c asked asks states k here gone lines nets x =
    turn-off _ _ _ c.args.group.now (Unit {0}) Bool (Unit {0}) (Unit {0}) (MakesCall g.C.Receiver.meaning c.args.group.now c.args.call.now) c.args.line c.args.self.now c.close.new.self
    c.in-Some.process.now c.call.new.self (sym c.in-Some.ensures.value) _ _ _ _ _ (λ l n t. Called asked c.args.call.now c.close.new.self l n asks t) c.in_ok-call.field-0 tt
    c.close.ensures.left c.call.ensures.address (sym c.in_ok-call.ensures.runs ∙ c.if-not-branch.true) c.close.ensures.gone
    (c.in_ok-call.ensures.turn (x.runs k c.args.self.now c.in-Some.process.now here (sym c.in-Some.ensures.value)).2) states k here gone lines nets x

pub returns-else-not-branch : goal.returns-else-not-branch
returns-else-not-branch g c asked asks states k here gone lines nets x =
    turn-on _ _ _ c.args.group.now (Unit {0}) Bool (Unit {0}) (Unit {0}) (MakesCall g.C.Receiver.meaning c.args.group.now c.args.call.now) c.args.line c.args.self.now _
    c.in-Some.process.now c.call.new.self (sym c.in-Some.ensures.value) _ _ _ _ _ (λ l n t. Called asked c.args.call.now _ l n asks t) c.in_ok-call.field-0 tt
    refl c.call.ensures.address (sym c.in_ok-call.ensures.runs ∙ c.if-not-branch.false) refl
    (c.in_ok-call.ensures.turn (x.runs k c.args.self.now c.in-Some.process.now here (sym c.in-Some.ensures.value)).2) states k here gone lines nets x
