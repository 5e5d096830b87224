use Rattle.std.proofs.Common.{ℕ, length, ap, ◌∙◌, subst}
use Rattle.world_model.specs.declared.WorldEvent.TheVariants.{Tick}
use Rattle.world.specs.Worlds.{WorldValue, shown}
use Rattle.world.specs.Plays.{Plays, Fails, BreaksPast}
use Rattle.world.specs.Calm.SpeaksShort.{AtTick, AtPacket}
use Rattle.world.proofs.Deliveries.{on-err-map}
use Rattle.address.proofs.Plain.{on-err}
use Rattle.world.proofs.World.speak.Goals as goal

-- the tick fails
pub returns-in_err-play-clause-err : goal.returns-in_err-play-clause-err
returns-in_err-play-clause-err g c = on-err c.from_residual.result _ (AtTick (shown c.play.new.self) (subst (λ (n : ℕ). Fails g.R.Receiver.meaning (shown c.args.self.now) (Tick n) (shown c.play.new.self)) c.node.ensures c.in_err-play.ensures.err))

-- or the delivery of a packet
pub returns-clause-err : goal.returns-clause-err
returns-clause-err g c =
    on-err-map c.deliver_past.result _ _
    (λ breaks. AtPacket (shown c.play.new.self) (shown c.deliver_past.new.self)
    (subst (λ (n : ℕ). Plays g.R.Receiver.meaning (shown c.args.self.now) (Tick n) (shown c.play.new.self)) c.node.ensures c.in_ok-play.ensures.ok)
    (subst (λ (k : ℕ). BreaksPast g.R.Receiver.meaning k (shown c.play.new.self) (shown c.deliver_past.new.self)) (c.count-known.ensures ∙ ap (λ (w : WorldValue _). length w.history.pool) c.self.view_is) breaks))
    c.deliver_past.ensures.err
