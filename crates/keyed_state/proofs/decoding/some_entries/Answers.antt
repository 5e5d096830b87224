use Rattle.big_endian.specs.Reading.{list_at}
use Rattle.keyed_state.specs.States.{entry_at}
use Rattle.big_endian.proofs.ListsRead.{list_goes_on, list_ends, list_is_done}
use Rattle.keyed_state.proofs.decoding.some_entries.Goals as goal

pub returns-in_default : goal.returns-in_default
returns-in_default g c =
    let read = entry_at g.V.Kept.form in
    list_ends read c.args.count c.loop.counter c.loop.from c.loop.entries.items (list_at read c.args.count c.args.from.now) c.loop-test.true (rw c.in_default.is at c.in_ok-entry.ensures) c.loop.invariant

pub loop-preserved : goal.loop-preserved
loop-preserved g c =
    let read = entry_at g.V.Kept.form in
    rw (c.in_ok-push.ensures.items)
    (list_goes_on read c.args.count c.loop.counter c.loop.from c.loop.entries.items c.in-Some.entry c.entry_from.new.from (list_at read c.args.count c.args.from.now) c.loop-test.true
    (rw c.in-Some.is at c.in_ok-entry.ensures) c.loop.invariant)

pub returns : goal.returns
returns g c = let read = entry_at g.V.Kept.form in list_is_done read c.args.count c.loop.counter c.loop.from c.loop.entries.items (list_at read c.args.count c.args.from.now) c.loop-test.false c.loop.invariant
