use Rattle.big_endian.specs.Reading.{list_at}
use Rattle.chat_log.specs.Encoding.{line_at}
use Rattle.chat_log.specs.Chat.{said}
use Rattle.big_endian.proofs.ListsRead.{list_goes_on, list_ends, list_is_done}
use Rattle.chat_log.proofs.decoding.lines_at.Goals as goal

pub returns-in_default : goal.returns-in_default
returns-in_default c = list_ends line_at c.args.count c.loop.counter c.loop.from c.loop.lines.items (list_at line_at c.args.count c.args.from.now) c.loop-test.true c.in_default.ensures c.loop.invariant

pub loop-preserved : goal.loop-preserved
loop-preserved c =
    rw (c.in_ok-push_line.ensures.ok) (list_goes_on line_at c.args.count c.loop.counter c.loop.from c.loop.lines.items (said c.in-Some.line.sender c.in-Some.line.payload.now) c.line_at.new.from (list_at line_at c.args.count c.args.from.now) c.loop-test.true c.in-Some.ensures c.loop.invariant)

pub returns : goal.returns
returns c = list_is_done line_at c.args.count c.loop.counter c.loop.from c.loop.lines.items (list_at line_at c.args.count c.args.from.now) c.loop-test.false c.loop.invariant
