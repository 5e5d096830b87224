use Rattle.std.proofs.Common.{◌∙◌, ap}
use Rattle.udp_net.specs.Logs.{one_more}
use Rattle.frames.specs.Nets.{HasReceived}
use Rattle.frames.proofs.Logs.{failed-on, up}
use Rattle.frames.proofs.SendsCarried.{received-on}
use Rattle.frames.proofs.framed_net.FramedNetNet.receive.Goals as goal

pub loop-preserved : goal.loop-preserved
loop-preserved g c =
    let i = c.loop.invariant in
    let before : HasReceived g.N.Net.log c.args.self.now c.loop.self =
    record { answers = i.answers; outlets = i.outlets; same = record { node = i.node; seal = i.seal } } in
    let r =
    received-on g.N.Net.log c.args.self.now c.loop.self c.give.new.self c.take.new.self before c.give.ensures.inner c.give.ensures.outlets c.give.ensures.same
    c.take.ensures.answers c.take.ensures.outlets c.take.ensures.same in
    record {
      failed = c.in_ok-take.ensures.failed ∙ ap g.N.Net.failed c.give.ensures.inner ∙ i.failed;
      unsent = up _ _ _ _ i.unsent (ap g.N.Net.unsent c.give.ensures.inner) c.take.ensures.unsent;
      lost = up _ _ _ _ i.lost c.give.ensures.lost c.take.ensures.lost;
      node = r.same.node;
      answers = r.answers;
      outlets = r.outlets;
      seal = r.same.seal;
    }

pub returns-in_err-take-clause-receives : goal.returns-in_err-take-clause-receives
returns-in_err-take-clause-receives g c =
    let i = c.loop.invariant in
    let before : HasReceived g.N.Net.log c.args.self.now c.loop.self =
    record { answers = i.answers; outlets = i.outlets; same = record { node = i.node; seal = i.seal } } in
    received-on g.N.Net.log c.args.self.now c.loop.self c.give.new.self c.take.new.self before c.give.ensures.inner c.give.ensures.outlets c.give.ensures.same
    c.take.ensures.answers c.take.ensures.outlets c.take.ensures.same

pub returns-then-not-branch-clause-receives : goal.returns-then-not-branch-clause-receives
returns-then-not-branch-clause-receives g c =
    let i = c.loop.invariant in
    let before : HasReceived g.N.Net.log c.args.self.now c.loop.self =
    record { answers = i.answers; outlets = i.outlets; same = record { node = i.node; seal = i.seal } } in
    received-on g.N.Net.log c.args.self.now c.loop.self c.give.new.self c.take.new.self before c.give.ensures.inner c.give.ensures.outlets c.give.ensures.same
    c.take.ensures.answers c.take.ensures.outlets c.take.ensures.same

pub returns-in_err-take-clause-failed : goal.returns-in_err-take-clause-failed
returns-in_err-take-clause-failed g c =
    failed-on _ _ c.from_residual.result
    (c.in_err-take.ensures.failed ∙ ap one_more (ap g.N.Net.failed c.give.ensures.inner ∙ c.loop.invariant.failed)) c.from_residual.ensures.0
