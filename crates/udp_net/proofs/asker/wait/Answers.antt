use Rattle.udp_net.specs.Sieve.{waited}
use Rattle.udp_net.proofs.WrittenOverEach.{written}
use Rattle.udp_net.proofs.asker.wait.Goals as goal

pub loop-asker-preserved : goal.loop-asker-preserved
loop-asker-preserved c = written (waited c.args.view.now) c.args.askers.now c.loop-asker.askers c.loop-asker.asker-index c.asker-item.result c.loop-asker-test.true c.loop-asker.invariant c.asker-item.is c.waited.ensures
