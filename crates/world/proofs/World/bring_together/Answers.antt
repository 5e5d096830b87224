use Rattle.std.proofs.Common.{ap, ◌∙◌, length}
use Rattle.world.specs.Worlds.{WorldValue, shown}
use Rattle.world.proofs.Deliveries.{on-err-map, on-ok-map}
use Rattle.world.specs.Settles.{begun_in}
use Rattle.world.specs.Settles.SettlesShort.{AtTick}
use Rattle.world.proofs.SettlingIsRun.{at-flush, at-report, at-install, all-of-it}
use Rattle.address.proofs.Plain.{on-err}
use Rattle.world.proofs.World.bring_together.Goals as goal

-- the tick fails
pub returns-in_err-play-clause-err : goal.returns-in_err-play-clause-err
returns-in_err-play-clause-err g c = on-err c.from_residual.result _ (AtTick (shown c.play.new.self) c.in_err-play.ensures.err)

-- the delivery of a FLUSH does
pub returns-in_err-deliver_past-clause-err : goal.returns-in_err-deliver_past-clause-err
returns-in_err-deliver_past-clause-err g c =
    on-err c.from_residual-in_err-deliver_past.result _
    (at-flush g.R.Receiver.meaning c.args.node (shown c.args.self.now) (shown c.play.new.self) c.in_ok-play.ensures.ok c.count-known.result (shown c.deliver_past.new.self)
    (c.count-known.ensures ∙ ap (λ (w : WorldValue _). length w.history.pool) c.self.view_is) c.in_err-deliver_past.ensures.err)

-- that of a REPORT does
pub returns-in_err-deliver_past-2-clause-err : goal.returns-in_err-deliver_past-2-clause-err
returns-in_err-deliver_past-2-clause-err g c =
    on-err c.from_residual-in_err-deliver_past-2.result _
    (at-report g.R.Receiver.meaning c.args.node (shown c.args.self.now) (shown c.play.new.self) c.in_ok-play.ensures.ok c.count-known.result (shown c.deliver_past.new.self)
    (c.count-known.ensures ∙ ap (λ (w : WorldValue _). length w.history.pool) c.self.view_is) c.in_ok-deliver_past.ensures.ok c.count-announced.result (shown c.deliver_past-2.new.self)
    (c.count-announced.ensures ∙ ap (λ (w : WorldValue _). length w.history.pool) c.self-2.view_is) c.in_err-deliver_past-2.ensures.err)

-- or that of a STATE or an INSTALL
pub returns-clause-err : goal.returns-clause-err
returns-clause-err g c =
    on-err-map c.deliver_between.result _ _
    (at-install g.R.Receiver.meaning c.args.node (shown c.args.self.now) (shown c.play.new.self) c.in_ok-play.ensures.ok c.count-known.result (shown c.deliver_past.new.self)
    (c.count-known.ensures ∙ ap (λ (w : WorldValue _). length w.history.pool) c.self.view_is) c.in_ok-deliver_past.ensures.ok c.count-announced.result (shown c.deliver_past-2.new.self)
    (c.count-announced.ensures ∙ ap (λ (w : WorldValue _). length w.history.pool) c.self-2.view_is) c.in_ok-deliver_past-2.ensures.ok c.count-reported.result c.count.result c.begun.result c.saturating_sub-last.result
    (c.count-reported.ensures ∙ ap (λ (w : WorldValue _). length w.history.pool) c.self-3.view_is) (c.count.ensures ∙ ap (λ (w : WorldValue _). length w.history.pool) c.self-4.view_is)
    (c.begun.ensures ∙ ap (λ (w : WorldValue _). begun_in ((shown w).node_states c.args.node)) c.self-4.view_is) c.saturating_sub-last.ensures (shown c.deliver_between.new.self)) c.deliver_between.ensures.err

-- all are played
pub returns-clause-ok : goal.returns-clause-ok
returns-clause-ok g c =
    on-ok-map c.deliver_between.result _ _
    (all-of-it g.R.Receiver.meaning c.args.node (shown c.args.self.now) (shown c.play.new.self) c.in_ok-play.ensures.ok c.count-known.result (shown c.deliver_past.new.self)
    (c.count-known.ensures ∙ ap (λ (w : WorldValue _). length w.history.pool) c.self.view_is) c.in_ok-deliver_past.ensures.ok c.count-announced.result (shown c.deliver_past-2.new.self)
    (c.count-announced.ensures ∙ ap (λ (w : WorldValue _). length w.history.pool) c.self-2.view_is) c.in_ok-deliver_past-2.ensures.ok c.count-reported.result c.count.result c.begun.result c.saturating_sub-last.result
    (c.count-reported.ensures ∙ ap (λ (w : WorldValue _). length w.history.pool) c.self-3.view_is) (c.count.ensures ∙ ap (λ (w : WorldValue _). length w.history.pool) c.self-4.view_is)
    (c.begun.ensures ∙ ap (λ (w : WorldValue _). begun_in ((shown w).node_states c.args.node)) c.self-4.view_is) c.saturating_sub-last.ensures (shown c.deliver_between.new.self)) c.deliver_between.ensures.ok
