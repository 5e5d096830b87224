use Rattle.std.proofs.Common.{rules}
use Rattle.chat_log.specs.ChatLaws.{encoded_short}
use Rattle.chat_log.proofs.log.LastLinesReceiver.get_state.Goals as goal

pub returns-clause-ok : goal.returns-clause-ok
returns-clause-ok g c = search rules

pub returns-clause-short : goal.returns-clause-short
returns-clause-short g c =
    let short = encoded_short g.L.ChatSize.LINES g.L.ChatSize.WIDTH g.L.ChatSize.fits c.args.self.now (rw c.self.view_is at c.self.invariant) in
    search rules

pub returns-clause-err : goal.returns-clause-err
returns-clause-err g c = search rules
