use Rattle.std.proofs.Common.{ℕ, length, ap, ◌∙◌, subst}
use Rattle.world_model.specs.declared.WorldEvent.TheVariants.{Tick}
use Rattle.world.specs.Worlds.{WorldValue, shown}
use Rattle.world.specs.Plays.{Plays, Fails}
use Rattle.world.proofs.Deliveries.{on-err-map, on-ok-map}
use Rattle.world.specs.LostInstalls.BringsInShort.{AtTick}
use Rattle.world.proofs.BringingIsRun.{at-report, at-install, all-of-it}
use Rattle.address.proofs.Plain.{on-err}
use Rattle.world.proofs.World.bring_in.Goals as goal

-- the tick fails
pub returns-in_err-play-clause-err : goal.returns-in_err-play-clause-err
returns-in_err-play-clause-err g c = on-err c.from_residual.result _ (AtTick (shown c.play.new.self) (subst (λ (n : ℕ). Fails g.R.Receiver.meaning (shown c.args.self.now) (Tick n) (shown c.play.new.self)) c.node.ensures c.in_err-play.ensures.err))

-- the delivery of the REPORT does
pub returns-in_err-play-2-clause-err : goal.returns-in_err-play-2-clause-err
returns-in_err-play-2-clause-err g c =
    on-err c.from_residual-in_err-play-2.result _
    (at-report g.R.Receiver.meaning c.args.address (shown c.args.self.now) (shown c.play.new.self) (subst (λ (n : ℕ). Plays g.R.Receiver.meaning (shown c.args.self.now) (Tick n) (shown c.play.new.self)) c.node.ensures c.in_ok-play.ensures.ok) c.count-asked.result (shown c.play-2.new.self)
    (c.count-asked.ensures ∙ ap (λ (w : WorldValue _). length w.history.pool) c.self.view_is) c.in_err-play-2.ensures.err)

-- or that of a STATE or an INSTALL
pub returns-clause-err : goal.returns-clause-err
returns-clause-err g c =
    on-err-map c.deliver_past.result _ _
    (at-install g.R.Receiver.meaning c.args.address (shown c.args.self.now) (shown c.play.new.self) (subst (λ (n : ℕ). Plays g.R.Receiver.meaning (shown c.args.self.now) (Tick n) (shown c.play.new.self)) c.node.ensures c.in_ok-play.ensures.ok) c.count-asked.result (shown c.play-2.new.self)
    (c.count-asked.ensures ∙ ap (λ (w : WorldValue _). length w.history.pool) c.self.view_is) c.in_ok-play-2.ensures.ok (shown c.deliver_past.new.self)) c.deliver_past.ensures.err

-- all are played
pub returns-clause-ok : goal.returns-clause-ok
returns-clause-ok g c =
    on-ok-map c.deliver_past.result _ _
    (all-of-it g.R.Receiver.meaning c.args.address (shown c.args.self.now) (shown c.play.new.self) (subst (λ (n : ℕ). Plays g.R.Receiver.meaning (shown c.args.self.now) (Tick n) (shown c.play.new.self)) c.node.ensures c.in_ok-play.ensures.ok) c.count-asked.result (shown c.play-2.new.self)
    (c.count-asked.ensures ∙ ap (λ (w : WorldValue _). length w.history.pool) c.self.view_is) c.in_ok-play-2.ensures.ok (shown c.deliver_past.new.self)) c.deliver_past.ensures.ok
