use Rattle.std.specs.Result.{result_err}
use Rattle.law_runners.specs.Runs.{Round}
use Rattle.udp_runs.proofs.ProcessesTurn.{takes-call}
use Rattle.udp_runs.proofs.process.Process.round.Goals as goal

pub returns-clause-turn : goal.returns-clause-turn
returns-clause-turn g c group runs =
    takes-call _ _ _ group _ _ _ 0 c.args.self.now c.end_turn.new.self _ _ c.round-answer.new.self (result_err c.round-answer.result) c.end_turn.result runs c.round-answer.ensures
    (Round _ _ c.round-answer.ensures) c.end_turn.ensures.says c.end_turn.ensures.err c.end_turn.ensures.offers
