use Rattle.std.proofs.Common.{ℕ, ap, ◌∙◌, length}
use Rattle.address.specs.Ids.{Address}
use Rattle.world.specs.Worlds.{WorldValue, shown}
use Rattle.world.specs.Pools.{first_for}
use Rattle.world.proofs.Deliveries.{on-err-map}
use Rattle.world.proofs.CatchUpStops.{at-tick, at-status, at-request, at-answer}
use Rattle.world.proofs.World.bring_level.Goals as goal
use Rattle.address.proofs.Plain.{on-err}

-- the tick fails
pub returns-in_err-play-clause-err : goal.returns-in_err-play-clause-err
returns-in_err-play-clause-err g c =
    on-err c.from_residual.result _ (at-tick g.R.Receiver.meaning c.args.pair.now (shown c.args.self.now) c.node.result (c.node.ensures ∙ ap (λ (p : Address). p.node) c.creator.ensures) (shown c.play.new.self) c.in_err-play.ensures.err)

-- the delivery of the STATUS does
pub returns-in_err-hand-clause-err : goal.returns-in_err-hand-clause-err
returns-in_err-hand-clause-err g c =
    on-err c.from_residual-in_err-hand.result _
    (at-status g.R.Receiver.meaning c.args.pair.now (shown c.args.self.now) c.node.result (c.node.ensures ∙ ap (λ (p : Address). p.node) c.creator.ensures) (shown c.play.new.self) c.in_ok-play.ensures.ok c.first_for-status.result
    (c.first_for-status.ensures ∙ ap (λ (w : WorldValue _). first_for c.args.pair.now.member c.count-known.result w.history.pool) c.self-2.view_is ∙ ap (λ (k : ℕ). first_for c.args.pair.now.member k c.play.new.self.history.pool) (c.count-known.ensures ∙ ap (λ (w : WorldValue _). length w.history.pool) c.self.view_is))
    (shown c.hand.new.self) c.in_err-hand.ensures.err)

-- that of the NAK does
pub returns-in_err-deliver_past-clause-err : goal.returns-in_err-deliver_past-clause-err
returns-in_err-deliver_past-clause-err g c =
    on-err c.from_residual-in_err-deliver_past.result _
    (at-request g.R.Receiver.meaning c.args.pair.now (shown c.args.self.now) c.node.result (c.node.ensures ∙ ap (λ (p : Address). p.node) c.creator.ensures) (shown c.play.new.self) c.in_ok-play.ensures.ok c.first_for-status.result
    (c.first_for-status.ensures ∙ ap (λ (w : WorldValue _). first_for c.args.pair.now.member c.count-known.result w.history.pool) c.self-2.view_is ∙ ap (λ (k : ℕ). first_for c.args.pair.now.member k c.play.new.self.history.pool) (c.count-known.ensures ∙ ap (λ (w : WorldValue _). length w.history.pool) c.self.view_is))
    (shown c.hand.new.self) c.in_ok-hand.ensures.ok c.count-announced.result (shown c.deliver_past.new.self) (c.count-announced.ensures ∙ ap (λ (w : WorldValue _). length w.history.pool) c.self-2.view_is) c.in_err-deliver_past.ensures.err)

-- or that of an answer
pub returns-clause-err : goal.returns-clause-err
returns-clause-err g c =
    on-err-map c.deliver_past-2.result _ _
    (at-answer g.R.Receiver.meaning c.args.pair.now (shown c.args.self.now) c.node.result (c.node.ensures ∙ ap (λ (p : Address). p.node) c.creator.ensures) (shown c.play.new.self) c.in_ok-play.ensures.ok c.first_for-status.result
    (c.first_for-status.ensures ∙ ap (λ (w : WorldValue _). first_for c.args.pair.now.member c.count-known.result w.history.pool) c.self-2.view_is ∙ ap (λ (k : ℕ). first_for c.args.pair.now.member k c.play.new.self.history.pool) (c.count-known.ensures ∙ ap (λ (w : WorldValue _). length w.history.pool) c.self.view_is))
    (shown c.hand.new.self) c.in_ok-hand.ensures.ok c.count-announced.result c.count-asked.result (shown c.deliver_past.new.self) (shown c.deliver_past-2.new.self)
    (c.count-announced.ensures ∙ ap (λ (w : WorldValue _). length w.history.pool) c.self-2.view_is) c.in_ok-deliver_past.ensures.ok (c.count-asked.ensures ∙ ap (λ (w : WorldValue _). length w.history.pool) c.self-3.view_is)) c.deliver_past-2.ensures.err
