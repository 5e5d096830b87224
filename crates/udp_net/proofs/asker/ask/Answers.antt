use Rattle.udp_net.specs.Sieve.{asking}
use Rattle.udp_net.proofs.WrittenOverEach.{written}
use Rattle.udp_net.proofs.asker.ask.Goals as goal

pub loop-asker-preserved : goal.loop-asker-preserved
loop-asker-preserved c = written (asking c.args.silent c.args.address) c.args.askers.now c.loop-asker.askers c.loop-asker.asker-index c.asker-item.result c.loop-asker-test.true c.loop-asker.invariant c.asker-item.is c.asking.ensures
