use Rattle.std.proofs.Common.{refl}
use Rattle.udp_net.specs.Neighbours.{older}
use Rattle.udp_net.proofs.WrittenOverEach.{written}
use Rattle.udp_net.proofs.neighbours.age_all.Goals as goal

pub loop-age-preserved : goal.loop-age-preserved
loop-age-preserved c = written (older) c.args.ages.now c.loop-age.ages c.loop-age.age-index c.age-item.result c.loop-age-test.true c.loop-age.invariant c.age-item.is (rw c.saturating_add-age.ensures refl)
