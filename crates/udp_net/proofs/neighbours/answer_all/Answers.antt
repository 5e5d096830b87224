use Rattle.std.proofs.Common.{◌≡◌, Bool, true, false, ◌&&◌, not, get_or, refl, if◌then◌else◌}
use Rattle.udp_net.specs.declared.word.Neighbour.{Neighbour}
use Rattle.udp_net.specs.Neighbours.{answered}
use Rattle.udp_net.proofs.WrittenOverEach.{written}
use Rattle.udp_net.proofs.neighbours.answer_all.Goals as goal

marked : (n : Neighbour) (asked same : Bool) → record n { is_asked = asked && not same } ≡ (if same then record n { is_asked = false } else record n { is_asked = asked })
marked n true true = refl
marked n true false = refl
marked n false true = refl
marked n false false = refl

pub loop-neighbour-preserved : goal.loop-neighbour-preserved
loop-neighbour-preserved c = written (answered c.args.node) c.args.told.now c.loop-neighbour.told c.loop-neighbour.neighbour-index c.neighbour-item.result c.loop-neighbour-test.true c.loop-neighbour.invariant c.neighbour-item.is (rw c.ne.ensures (marked (get_or c.loop-neighbour.told c.loop-neighbour.neighbour-index c.neighbour-item.result) _ _))
