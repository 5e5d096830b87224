use Rattle.std.proofs.Common.{refl}
use Rattle.frames.proofs.KeepsCame.{gives-came, keeps-giving}
use Rattle.frames.proofs.framed_net.FramedNet.give.Goals as goal

pub invariant_of-self : goal.invariant_of-self
invariant_of-self g c =
    keeps-giving (g.N.Net.log c.self.inside.inner) c.self.inside.seal.key c.self.inside.opener (record c.self.inside.opener { opened = c.give.new.self }) c.give.result c.give.new.buffer c.give.ensures.gives refl c.self.invariant

pub returns-clause-arrived : goal.returns-clause-arrived
returns-clause-arrived g c =
    rw (← c.self.view_is)
    (gives-came (g.N.Net.log c.self.inside.inner) c.self.inside.seal.key c.self.inside.opener c.give.result c.give.new.buffer c.give.new.self c.give.ensures.gives c.self.invariant)
