use Rattle.std.proofs.Common.{ℕ, length, ap, ◌∙◌}
use Rattle.world.specs.Worlds.{WorldValue, shown}
use Rattle.world.specs.Pools.{first_for}
use Rattle.world.proofs.Deliveries.{on-err-map, on-ok-map}
use Rattle.world.specs.LowProposals.RaisesShort.{AtTick}
use Rattle.world.proofs.OvertakingIsRun.{at-flush, at-behind, all-of-it}
use Rattle.address.proofs.Plain.{on-err}
use Rattle.world.proofs.World.raise.Goals as goal

-- the tick fails
pub returns-in_err-play-clause-err : goal.returns-in_err-play-clause-err
returns-in_err-play-clause-err g c = on-err c.from_residual.result _ (AtTick (shown c.play.new.self) c.in_err-play.ensures.err)

-- the delivery of the FLUSH does
pub returns-in_err-hand-clause-err : goal.returns-in_err-hand-clause-err
returns-in_err-hand-clause-err g c =
    on-err c.from_residual-in_err-hand.result _
    (at-flush g.R.Receiver.meaning c.args.node c.args.asked (shown c.args.self.now) (shown c.play.new.self) c.in_ok-play.ensures.ok c.first_for-flush.result
    (c.first_for-flush.ensures ∙ ap (λ (w : WorldValue _). first_for c.args.asked c.count-known.result w.history.pool) c.self-2.view_is ∙ ap (λ (k : ℕ). first_for c.args.asked k c.play.new.self.history.pool) (c.count-known.ensures ∙ ap (λ (w : WorldValue _). length w.history.pool) c.self.view_is))
    (shown c.hand.new.self) c.in_err-hand.ensures.err)

-- or that of the BEHIND
pub returns-clause-err : goal.returns-clause-err
returns-clause-err g c =
    on-err-map c.play-2.result _ _
    (at-behind g.R.Receiver.meaning c.args.node c.args.asked (shown c.args.self.now) (shown c.play.new.self) c.in_ok-play.ensures.ok c.first_for-flush.result
    (c.first_for-flush.ensures ∙ ap (λ (w : WorldValue _). first_for c.args.asked c.count-known.result w.history.pool) c.self-2.view_is ∙ ap (λ (k : ℕ). first_for c.args.asked k c.play.new.self.history.pool) (c.count-known.ensures ∙ ap (λ (w : WorldValue _). length w.history.pool) c.self.view_is))
    (shown c.hand.new.self) c.in_ok-hand.ensures.ok c.count-behind.result (c.count-behind.ensures ∙ ap (λ (w : WorldValue _). length w.history.pool) c.self-3.view_is) (shown c.play-2.new.self)) c.play-2.ensures.err

-- all are played
pub returns-clause-ok : goal.returns-clause-ok
returns-clause-ok g c =
    on-ok-map c.play-2.result _ _
    (all-of-it g.R.Receiver.meaning c.args.node c.args.asked (shown c.args.self.now) (shown c.play.new.self) c.in_ok-play.ensures.ok c.first_for-flush.result
    (c.first_for-flush.ensures ∙ ap (λ (w : WorldValue _). first_for c.args.asked c.count-known.result w.history.pool) c.self-2.view_is ∙ ap (λ (k : ℕ). first_for c.args.asked k c.play.new.self.history.pool) (c.count-known.ensures ∙ ap (λ (w : WorldValue _). length w.history.pool) c.self.view_is))
    (shown c.hand.new.self) c.in_ok-hand.ensures.ok c.count-behind.result (c.count-behind.ensures ∙ ap (λ (w : WorldValue _). length w.history.pool) c.self-3.view_is) (shown c.play-2.new.self)) c.play-2.ensures.ok
