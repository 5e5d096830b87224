use Rattle.udp_net.specs.Neighbours.{renewed}
use Rattle.udp_net.proofs.WrittenOverEach.{written}
use Rattle.udp_net.proofs.neighbours.renew_all.Goals as goal

pub loop-age-preserved : goal.loop-age-preserved
loop-age-preserved c = written (renewed c.args.node) c.args.ages.now c.loop-age.ages c.loop-age.age-index c.age-item.result c.loop-age-test.true c.loop-age.invariant c.age-item.is c.renewed.ensures
