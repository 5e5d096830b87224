use Rattle.frames.specs.Nets.{IsAnswer}
use Rattle.frames.proofs.KeepsCame.{keeps-on, keeps-receiving}
use Rattle.frames.proofs.Logs.{failed-on, grows-listing}
use Rattle.frames.proofs.SendsCarried.{adds-one}
use Rattle.frames.proofs.framed_net.FramedNet.take.Goals as goal

pub invariant_of-self : goal.invariant_of-self
invariant_of-self g c =
    keeps-on (g.N.Net.log c.self.inside.inner) (g.N.Net.log c.receive.new.self) c.self.inside.seal.key c.self.inside.opener
    (grows-listing (g.N.Net.log c.self.inside.inner) (g.N.Net.log c.receive.new.self) _ c.receive.ensures.lists) c.self.invariant

pub invariant_of-self-in_default : goal.invariant_of-self-in_default
invariant_of-self-in_default g c =
    keeps-on (g.N.Net.log c.self.inside.inner) (g.N.Net.log c.receive.new.self) c.self.inside.seal.key c.self.inside.opener
    (grows-listing (g.N.Net.log c.self.inside.inner) (g.N.Net.log c.receive.new.self) _ c.receive.ensures.lists) c.self.invariant

pub invariant_of-self-2 : goal.invariant_of-self-2
invariant_of-self-2 g c =
    keeps-receiving (g.N.Net.log c.self.inside.inner) (g.N.Net.log c.receive.new.self) c.self.inside.seal.key c.self.inside.opener c.open-opened.new.self c.in_ok-count.field-0 c.in-Some.count
    c.receive.new.buffer c.split_at.result.0.now c.in-Some.is c.split_at.ensures.front c.in_ok-count.ensures.lists c.open-opened.ensures.stands c.self.invariant

pub returns-in_err-count-clause-answers : goal.returns-in_err-count-clause-answers
returns-in_err-count-clause-answers g c = rw (← c.self.view_is) (adds-one IsAnswer (g.N.Net.log c.self.inside.inner) (g.N.Net.log c.receive.new.self) _ c.receive.ensures.lists tt)

pub returns-in_default-clause-answers : goal.returns-in_default-clause-answers
returns-in_default-clause-answers g c = rw (← c.self.view_is) (adds-one IsAnswer (g.N.Net.log c.self.inside.inner) (g.N.Net.log c.receive.new.self) _ c.receive.ensures.lists tt)

pub returns-clause-answers : goal.returns-clause-answers
returns-clause-answers g c = rw (← c.self.view_is) (adds-one IsAnswer (g.N.Net.log c.self.inside.inner) (g.N.Net.log c.receive.new.self) _ c.receive.ensures.lists tt)

pub returns-in_err-count-clause-failed : goal.returns-in_err-count-clause-failed
returns-in_err-count-clause-failed g c = rw (← c.self.view_is) (failed-on _ _ c.from_residual.result c.in_err-count.ensures.failed c.from_residual.ensures.0)
