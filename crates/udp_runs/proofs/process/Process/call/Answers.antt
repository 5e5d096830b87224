use Rattle.std.proofs.Common.{refl}
use Rattle.std.specs.Result.{result_err}
use Rattle.udp_runs.proofs.ProcessesTurn.{takes-none, takes-call}
use Rattle.udp_runs.proofs.process.Process.call.Goals as goal

pub returns-in_err-answer-clause-turn : goal.returns-in_err-answer-clause-turn
returns-in_err-answer-clause-turn g c runs = takes-none _ _ _ c.args.group.now _ _ _ c.args.line c.args.self.now (record { address = c.args.self.now.address; runner = c.do_call.new.runner }) _ _ c.from_residual.result c.from_residual.ensures.0 refl

pub returns-clause-turn : goal.returns-clause-turn
returns-clause-turn g c runs =
    takes-call _ _ _ c.args.group.now _ _ _ c.args.line c.args.self.now c.end_turn.new.self _ _ c.do_call.new.runner (result_err c.in_ok-answer.answer) c.end_turn.result runs
    c.in_ok-answer.ensures.makes c.in_ok-answer.ensures.called.call c.end_turn.ensures.says c.end_turn.ensures.err c.end_turn.ensures.offers
