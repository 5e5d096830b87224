use Rattle.std.proofs.Common.{arith}
use Rattle.traffic.proofs.RangesHeld.{nak-next, nak-all}
use Rattle.traffic.proofs.coordinator.Coordinator.nak.Goals as goal

pub loop-g-preserved : goal.loop-g-preserved
loop-g-preserved c = (nak-next _ c.args.self.now.view _ _ _ _ _ _ _ _ c.loop-g.invariant.1 c.loop-g.invariant.0 c.in_ok-resend.ensures, omega arith, omega arith)

pub returns : goal.returns
returns c = nak-all _ c.args.self.now.view _ _ _ _ _ _ _ _ _ _ c.kept.ensures c.first.ensures.in_order (omega arith) (omega arith) c.loop-g.invariant.1 c.loop-g-test.false c.loop-g.invariant.2 c.loop-g.invariant.0
