use Rattle.std.proofs.Common.{inr, ap, sym, ◌∙◌}
use Rattle.std.specs.Prelude.{is_some}
use Rattle.world.specs.Worlds.{WorldValue, shown}
use Rattle.world.specs.Settles.{settling_at, Settles, SettlesShort}
use Rattle.world.specs.LostInstalls.{awaited_at, BringsAll, BringsShort}
use Rattle.world.specs.LowProposals.{overtaking_at, OvertakesAndSettles, OvertakesShort}
use Rattle.world.proofs.CompletesAnyWay.{none-there, all-first, all-second, all-third, short-first, short-second, answer-third, ok-third, err-third, untried-or}
use Rattle.address.proofs.Plain.{on-err}
use Rattle.world.proofs.World.complete.Goals as goal

-- a flush goes on, and its settling ended in an error
pub returns-in_err-bring_together-clause-stops : goal.returns-in_err-bring_together-clause-stops
returns-in_err-bring_together-clause-stops g c =
    on-err c.from_residual.result _
    (inr (short-first (SettlesShort g.R.Receiver.meaning c.args.node (shown c.args.self.now) (shown c.bring_together.new.self))
    (λ v. BringsShort g.R.Receiver.meaning c.args.node v (shown c.args.self.now) (shown c.bring_together.new.self)) (OvertakesShort g.R.Receiver.meaning c.args.node (shown c.args.self.now) (shown c.bring_together.new.self))
    (settling_at (shown c.args.self.now).node_states c.args.node) (awaited_at (shown c.args.self.now).node_states c.args.node) (overtaking_at (shown c.args.self.now).node_states c.args.node)
    c.is_settling.result (c.is_settling.ensures ∙ ap (λ (w : WorldValue _). is_some (settling_at (shown w).node_states c.args.node)) c.self.view_is) c.if-is_settling.true c.in_err-bring_together.ensures.err))

-- or did not
pub returns-then-is_settling-clause-plays : goal.returns-then-is_settling-clause-plays
returns-then-is_settling-clause-plays g c =
    all-first (Settles g.R.Receiver.meaning c.args.node (shown c.args.self.now) (shown c.bring_together.new.self))
    (λ v. BringsAll g.R.Receiver.meaning c.args.node v (shown c.args.self.now) v.members (shown c.bring_together.new.self)) (OvertakesAndSettles g.R.Receiver.meaning c.args.node (shown c.args.self.now) (shown c.bring_together.new.self))
    (settling_at (shown c.args.self.now).node_states c.args.node) (awaited_at (shown c.args.self.now).node_states c.args.node) (overtaking_at (shown c.args.self.now).node_states c.args.node)
    c.is_settling.result (c.is_settling.ensures ∙ ap (λ (w : WorldValue _). is_some (settling_at (shown w).node_states c.args.node)) c.self.view_is) c.if-is_settling.true c.in_ok-bring_together.ensures.ok

-- neither of the first two ways is there: it is as the third says
pub returns-in_default-clause-answer : goal.returns-in_default-clause-answer
returns-in_default-clause-answer g c =
    answer-third c.overtake.result (settling_at (shown c.args.self.now).node_states c.args.node) (awaited_at (shown c.args.self.now).node_states c.args.node) (overtaking_at (shown c.args.self.now).node_states c.args.node)
    (none-there (settling_at (shown c.args.self.now).node_states c.args.node) (awaited_at (shown c.args.self.now).node_states c.args.node) c.is_settling.result (c.is_settling.ensures ∙ ap (λ (w : WorldValue _). is_some (settling_at (shown w).node_states c.args.node)) c.self.view_is) c.if-is_settling.false (sym (c.awaited.ensures ∙ ap (λ (w : WorldValue _). awaited_at (shown w).node_states c.args.node) c.self.view_is) ∙ c.in_default.is)) c.overtake.ensures.answer

pub returns-in_default-clause-plays : goal.returns-in_default-clause-plays
returns-in_default-clause-plays g c =
    ok-third c.overtake.result
    (all-third (Settles g.R.Receiver.meaning c.args.node (shown c.args.self.now) (shown c.overtake.new.self))
    (λ v. BringsAll g.R.Receiver.meaning c.args.node v (shown c.args.self.now) v.members (shown c.overtake.new.self)) (OvertakesAndSettles g.R.Receiver.meaning c.args.node (shown c.args.self.now) (shown c.overtake.new.self))
    (settling_at (shown c.args.self.now).node_states c.args.node) (awaited_at (shown c.args.self.now).node_states c.args.node) (overtaking_at (shown c.args.self.now).node_states c.args.node)
    (none-there (settling_at (shown c.args.self.now).node_states c.args.node) (awaited_at (shown c.args.self.now).node_states c.args.node) c.is_settling.result (c.is_settling.ensures ∙ ap (λ (w : WorldValue _). is_some (settling_at (shown w).node_states c.args.node)) c.self.view_is) c.if-is_settling.false (sym (c.awaited.ensures ∙ ap (λ (w : WorldValue _). awaited_at (shown w).node_states c.args.node) c.self.view_is) ∙ c.in_default.is))) c.overtake.ensures.plays

pub returns-in_default-clause-stops : goal.returns-in_default-clause-stops
returns-in_default-clause-stops g c =
    err-third c.overtake.result
    (untried-or g.R.Receiver.meaning c.args.node (shown c.args.self.now) (shown c.overtake.new.self)
    (none-there (settling_at (shown c.args.self.now).node_states c.args.node) (awaited_at (shown c.args.self.now).node_states c.args.node) c.is_settling.result (c.is_settling.ensures ∙ ap (λ (w : WorldValue _). is_some (settling_at (shown w).node_states c.args.node)) c.self.view_is) c.if-is_settling.false (sym (c.awaited.ensures ∙ ap (λ (w : WorldValue _). awaited_at (shown w).node_states c.args.node) c.self.view_is) ∙ c.in_default.is))) c.overtake.ensures.stops

-- INSTALLs were lost, and bringing in ended in an error
pub returns-in_err-bring_in_all-clause-stops : goal.returns-in_err-bring_in_all-clause-stops
returns-in_err-bring_in_all-clause-stops g c =
    on-err c.from_residual-in_err-bring_in_all.result _
    (inr (short-second (SettlesShort g.R.Receiver.meaning c.args.node (shown c.args.self.now) (shown c.bring_in_all.new.self))
    (λ v. BringsShort g.R.Receiver.meaning c.args.node v (shown c.args.self.now) (shown c.bring_in_all.new.self)) (OvertakesShort g.R.Receiver.meaning c.args.node (shown c.args.self.now) (shown c.bring_in_all.new.self))
    (settling_at (shown c.args.self.now).node_states c.args.node) (awaited_at (shown c.args.self.now).node_states c.args.node) (overtaking_at (shown c.args.self.now).node_states c.args.node)
    c.is_settling.result c.in-Some.view (c.is_settling.ensures ∙ ap (λ (w : WorldValue _). is_some (settling_at (shown w).node_states c.args.node)) c.self.view_is) c.if-is_settling.false
    (sym (c.awaited.ensures ∙ ap (λ (w : WorldValue _). awaited_at (shown w).node_states c.args.node) c.self.view_is) ∙ c.in-Some.is) c.in_err-bring_in_all.ensures.err))

-- or did not
pub returns-clause-plays : goal.returns-clause-plays
returns-clause-plays g c =
    all-second (Settles g.R.Receiver.meaning c.args.node (shown c.args.self.now) (shown c.bring_in_all.new.self))
    (λ v. BringsAll g.R.Receiver.meaning c.args.node v (shown c.args.self.now) v.members (shown c.bring_in_all.new.self)) (OvertakesAndSettles g.R.Receiver.meaning c.args.node (shown c.args.self.now) (shown c.bring_in_all.new.self))
    (settling_at (shown c.args.self.now).node_states c.args.node) (awaited_at (shown c.args.self.now).node_states c.args.node) (overtaking_at (shown c.args.self.now).node_states c.args.node)
    c.is_settling.result c.in-Some.view (c.is_settling.ensures ∙ ap (λ (w : WorldValue _). is_some (settling_at (shown w).node_states c.args.node)) c.self.view_is) c.if-is_settling.false
    (sym (c.awaited.ensures ∙ ap (λ (w : WorldValue _). awaited_at (shown w).node_states c.args.node) c.self.view_is) ∙ c.in-Some.is) c.in_ok-bring_in_all.ensures.ok
