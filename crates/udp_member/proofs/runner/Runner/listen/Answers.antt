use Rattle.std.proofs.lemmas.Result.{err_from_is_err_and}
use Rattle.udp_member.proofs.RoundsCompose.{heard-none, heard-one, heard-until, heard-full, heard-cut}
use Rattle.udp_member.proofs.runner.Runner.listen.Goals as goal

pub loop-turn-init : goal.loop-turn-init
loop-turn-init g c = heard-none g.N.Net.log g.N.Net.failed g.R.Receiver.meaning _

pub loop-turn-preserved : goal.loop-turn-preserved
loop-turn-preserved g c =
    heard-one g.N.Net.log g.N.Net.failed g.R.Receiver.meaning _ _ _ _ _ c.loop-turn.invariant c.in_ok-came.ensures c.if-not-came.false

pub returns-in_err-came : goal.returns-in_err-came
returns-in_err-came g c =
    let p = err_from_is_err_and c.from_residual.result c.from_residual.ensures.1 in
    rw (p.1, p.2) (heard-cut g.N.Net.log g.N.Net.failed g.R.Receiver.meaning _ _ _ _ _ c.loop-turn.invariant c.in_err-came.ensures)

pub returns-then-not-came : goal.returns-then-not-came
returns-then-not-came g c =
    heard-until g.N.Net.log g.N.Net.failed g.R.Receiver.meaning _ _ _ _ _ c.loop-turn.invariant c.loop-turn-test.true c.in_ok-came.ensures c.if-not-came.true

pub returns : goal.returns
returns g c =
    heard-full g.N.Net.log g.N.Net.failed g.R.Receiver.meaning _ _ _ c.loop-turn.invariant c.loop-turn-test.false c.loop-turn.auto.turn-end
