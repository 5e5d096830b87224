use Rattle.std.proofs.Common.{refl, subst, sym}
use Rattle.frames.specs.Nets.{FramedModel, HasFlushed}
use Rattle.frames.proofs.SendsCarried.{waited}
use Rattle.frames.proofs.framed_net.FramedNetNet.wait.Goals as goal

pub returns-then-is_empty-clause-sends : goal.returns-then-is_empty-clause-sends
returns-then-is_empty-clause-sends g c =
    let flushed = subst (λ (m : FramedModel g.row.N.Denot). HasFlushed g.N.Net.log c.args.self.now m) (sym c.self.view_is) c.flush.ensures.sends in
    waited g.N.Net.log c.args.self.now _ _ flushed c.wait.ensures.lists refl refl refl
