use Rattle.std.proofs.lemmas.List.{take_all}
use Rattle.http_desk.proofs.OneByOne.{next-lock}
use Rattle.http_desk.proofs.known.all_of_locks.Goals as goal

pub loop-answer-preserved : goal.loop-answer-preserved
loop-answer-preserved c =
    next-lock c.args.answers.now c.loop-answer.all.items c.push.new.self.items c.loop-answer.answer-index c.answer-item.result _ c.known_of_lock.result
    c.answer-item.is c.loop-answer-test.true c.loop-answer.invariant c.in_ok-push.ensures.items c.known_of_lock.ensures

pub returns : goal.returns
returns c = rw (take_all c.loop-answer.answer-index c.args.answers.now c.loop-answer-test.false) at c.loop-answer.invariant
