use Rattle.frames.proofs.KeepsCame.{keeps-new}
use Rattle.frames.proofs.framed_net.FramedNet.new.Goals as goal

pub invariant_of-result : goal.invariant_of-result
invariant_of-result g c = keeps-new (g.N.Net.log c.args.inner) c.new.result c.new-2.result c.new-2.ensures.stands
