use Rattle.std.proofs.Common.{arith}
use Rattle.world.specs.Worlds.{shown}
use Rattle.world.proofs.Deliveries.{delivers-start, delivers-one, breaks-one}
use Rattle.world.proofs.World.deliver_between.Goals as goal
use Rattle.address.proofs.Plain.{on-err}

pub loop-number-init : goal.loop-number-init
loop-number-init g c = (delivers-start g.R.Receiver.meaning c.args.past (shown c.args.self.now), omega arith, omega arith)

-- this delivery fails
pub returns-in_err-play-clause-err : goal.returns-in_err-play-clause-err
returns-in_err-play-clause-err g c =
    on-err c.from_residual.result _
    (breaks-one g.R.Receiver.meaning c.args.past c.loop-number.number c.args.last (shown c.args.self.now) (shown c.loop-number.self) (shown c.play.new.self)
    c.loop-number.invariant.1 (omega (arith, c.loop-number-test.true)) c.loop-number.invariant.0 c.in_err-play.ensures.err)

pub loop-number-preserved : goal.loop-number-preserved
loop-number-preserved g c = (
  delivers-one g.R.Receiver.meaning c.args.past c.loop-number.number (shown c.args.self.now) (shown c.loop-number.self) (shown c.play.new.self) c.loop-number.invariant.1 c.loop-number.invariant.0 c.in_ok-play.ensures.ok,
  omega (arith, c.loop-number.invariant.1),
  omega (arith, c.loop-number-test.true),
)
