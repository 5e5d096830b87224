use Rattle.std.proofs.lemmas.Result.{err_from_is_err_and}
use Rattle.udp_member.proofs.RoundsCompose.{cut-while-hearing, cut-while-suspecting, ticked}
use Rattle.udp_member.proofs.runner.Runner.round.Goals as goal

pub returns-in_err-_count : goal.returns-in_err-_count
returns-in_err-_count g c =
    let p = err_from_is_err_and c.from_residual.result c.from_residual.ensures.1 in
    rw (p.1, p.2) (cut-while-hearing g.N.Net.log g.N.Net.failed g.R.Receiver.meaning _ _ _ c.in_err-_count.ensures)

pub returns-in_err-suspect_silent : goal.returns-in_err-suspect_silent
returns-in_err-suspect_silent g c =
    let p = err_from_is_err_and c.from_residual-in_err-suspect_silent.result c.from_residual-in_err-suspect_silent.ensures.1 in
    rw (p.1, p.2) (cut-while-suspecting g.N.Net.log g.N.Net.failed g.R.Receiver.meaning _ _ _ _ _ c.in_ok-_count.ensures c.in_err-suspect_silent.ensures)

pub returns : goal.returns
returns g c =
    ticked g.N.Net.log g.N.Net.failed g.R.Receiver.meaning _ _ _ _ _ _ c.in_ok-_count.ensures c.in_ok-suspect_silent.ensures c.tick.ensures.hands c.tick.ensures.net c.tick.ensures.faults
