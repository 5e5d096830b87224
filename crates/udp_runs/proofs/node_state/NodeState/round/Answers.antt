use Rattle.std.proofs.Common.{Bool, refl, sym, ◌∙◌}
use Rattle.udp_member.specs.Rounds.{Rounds}
use Rattle.udp_runs.specs.Carrying.{Idle, Turns}
use Rattle.udp_runs.proofs.CallsAmongOthers.{still, turn-on, turn-off, turn-cut}
use Rattle.udp_runs.proofs.node_state.NodeState.round.Goals as goal

pub returns-in_default : goal.returns-in_default
returns-in_default g c group states k here gone lines nets x =
    still _ _ _ group (Unit {0}) (Unit {0}) _ c.args.self.now _ _ _ _ _ tt refl refl refl (Idle (sym c.in_default.ensures.value)) states k here gone lines nets x

pub returns-in_err-round : goal.returns-in_err-round
returns-in_err-round g c group states k here gone lines nets x =
    turn-cut _ _ _ group _ Bool _ _ (Rounds g.N.Net.log g.N.Net.failed g.C.Receiver.meaning) 0 c.args.self.now _ c.in-Some.process.now c.round.new.self (sym c.in-Some.ensures.value) _ _ _ _ _
    c.in_err-round.field-0.0 _ c.from_residual.ensures.0
    (c.in_err-round.ensures.turn group (x.runs k c.args.self.now c.in-Some.process.now here (sym c.in-Some.ensures.value)).2) states k here gone lines nets x

pub returns-then-not-branch : goal.returns-then-not-branch
returns-then-not-branch g c group states k here gone lines nets x =
    turn-off _ _ _ group (Unit {0}) Bool (Unit {0}) (Unit {0}) (Rounds g.N.Net.log g.N.Net.failed g.C.Receiver.meaning) 0 c.args.self.now c.close.new.self c.in-Some.process.now c.round.new.self
    (sym c.in-Some.ensures.value) _ _ _ _ _ (λ l n t. Turns c.close.new.self l n t) c.in_ok-round.field-0 tt
    c.close.ensures.left c.round.ensures.address (sym c.in_ok-round.ensures.runs ∙ c.if-not-branch.true) c.close.ensures.gone
    (c.in_ok-round.ensures.turn group (x.runs k c.args.self.now c.in-Some.process.now here (sym c.in-Some.ensures.value)).2) states k here gone lines nets x

pub returns-else-not-branch : goal.returns-else-not-branch
returns-else-not-branch g c group states k here gone lines nets x =
    turn-on _ _ _ group (Unit {0}) Bool (Unit {0}) (Unit {0}) (Rounds g.N.Net.log g.N.Net.failed g.C.Receiver.meaning) 0 c.args.self.now _ c.in-Some.process.now c.round.new.self
    (sym c.in-Some.ensures.value) _ _ _ _ _ (λ l n t. Turns _ l n t) c.in_ok-round.field-0 tt
    refl c.round.ensures.address (sym c.in_ok-round.ensures.runs ∙ c.if-not-branch.false) refl
    (c.in_ok-round.ensures.turn group (x.runs k c.args.self.now c.in-Some.process.now here (sym c.in-Some.ensures.value)).2) states k here gone lines nets x
