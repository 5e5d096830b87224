use Rattle.std.proofs.Common.{map, ◌∙◌}
use Rattle.std.specs.Result.{result_err}
use Rattle.udp_runs.specs.Answers.{answer_lines}
use Rattle.udp_runs.specs.Texts.{Happens}
use Rattle.udp_runs.proofs.LinesAndEvents.{on-err, cut-some, cut-whole, text-then}
use Rattle.udp_runs.proofs.ProcessesTurn.{shows-as}
use Rattle.udp_runs.proofs.process.Process.end_turn.Goals as goal

pub returns-in_err-append_events-clause-err : goal.returns-in_err-append_events-clause-err
returns-in_err-append_events-clause-err g c =
    on-err _ (cut-some _ _ (map Happens c.args.self.now.runner.channel.happened) (answer_lines c.args.self.now.address c.args.line (result_err c.args.answer)) (rw c.channel.ensures.value at c.in_err-append_events.ensures.err))

pub returns-in_err-append_answer-clause-err : goal.returns-in_err-append_answer-clause-err
returns-in_err-append_answer-clause-err g c =
    on-err _ (cut-whole _ _ (map Happens c.args.self.now.runner.channel.happened) (answer_lines c.args.self.now.address c.args.line (result_err c.args.answer))
    (c.in_err-append_answer.ensures.err ∙ rw c.channel.ensures.value at c.in_ok-append_events.ensures.text))

pub returns-clause-says : goal.returns-clause-says
returns-clause-says g c =
    text-then _ _ _ (map Happens c.args.self.now.runner.channel.happened) (answer_lines c.args.self.now.address c.args.line (result_err c.args.answer)) (rw c.channel.ensures.value at c.in_ok-append_events.ensures.text)
    c.in_ok-append_answer.ensures.text

pub returns-clause-runs : goal.returns-clause-runs
returns-clause-runs g c = c.is_some.ensures ∙ shows-as _ _ c.receiver.ensures
