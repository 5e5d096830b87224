use Rattle.udp_net.specs.Neighbours.{remembered}
use Rattle.udp_net.proofs.WrittenOverEach.{written}
use Rattle.udp_net.proofs.neighbours.forget_old.Goals as goal

pub loop-neighbour-preserved : goal.loop-neighbour-preserved
loop-neighbour-preserved c = written (remembered c.args.ages.now) c.args.told.now c.loop-neighbour.told c.loop-neighbour.neighbour-index c.neighbour-item.result c.loop-neighbour-test.true c.loop-neighbour.invariant c.neighbour-item.is c.remembered.ensures
