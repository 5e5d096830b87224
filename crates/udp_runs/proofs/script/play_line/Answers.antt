use Rattle.std.proofs.Common.{[]}
use Rattle.udp_runs.proofs.ScriptsPlay.{line-goes, line-failed}
use Rattle.udp_runs.proofs.script.play_line.Goals as goal

pub returns-in-Ok-clause-goes : goal.returns-in-Ok-clause-goes
returns-in-Ok-clause-goes g c gone lines nets x empty =
    line-goes _ _ _ g.C.Application.line_of c.args.settings.now.group [] c.args.line.now _ _ _ _ _ _ _ _ _ gone lines nets x empty c.carry_out-done.result c.carry_out-done.ensures.goes
    c.carry_out-done.ensures.unchanged c.in-Ok.ensures.ok c.in-Ok.ensures.empty

pub returns-in-Err-clause-goes : goal.returns-in-Err-clause-goes
returns-in-Err-clause-goes g c gone lines nets x empty =
    line-failed _ _ _ g.C.Application.line_of c.args.settings.now.group [] c.args.line.now _ _ _ _ _ _ [] _ _ gone lines nets x empty c.carry_out-done.result c.in-Err.ensures.err.0 c.in-Err.why
    c.in-Err.ensures.cut c.carry_out-done.ensures.goes c.in-Err.ensures.err.1
