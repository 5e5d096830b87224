use Rattle.commands.proofs.ChecksEnd.{judged-text, unjudged-text}
use Rattle.commands.proofs.checks.judge.Goals as goal

pub returns-in-Ok : goal.returns-in-Ok
returns-in-Ok g c =
    judged-text g.R.Receiver.meaning c.args.trace.now.events c.in-Ok.verdict _ _ _ c.in-Ok.ensures.verdict c.print_verdict.ensures

pub returns-in-Err : goal.returns-in-Err
returns-in-Err g c = unjudged-text g.R.Receiver.meaning c.args.trace.now.events _ _ _ c.end_in_memory.ensures
