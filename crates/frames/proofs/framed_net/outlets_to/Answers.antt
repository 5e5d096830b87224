use Rattle.std.proofs.Common.{List, subst, sym}
use Rattle.std.specs.List.{AllByRecursion}
use Rattle.frames.specs.Nets.{IsFresh}
use Rattle.frames.specs.Outlets.{OutletModel}
use Rattle.frames.proofs.PiecesCome.{all-push}
use Rattle.frames.proofs.framed_net.outlets_to.Goals as goal

pub loop-node-preserved : goal.loop-node-preserved
loop-node-preserved c =
    subst (λ (o : List OutletModel). AllByRecursion IsFresh o) (sym c.in_ok-push.ensures.items)
    (all-push IsFresh c.loop-node.outlets.items c.new.result c.loop-node.invariant c.new.ensures)
