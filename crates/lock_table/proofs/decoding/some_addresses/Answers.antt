use Rattle.big_endian.specs.Reading.{list_at}
use Rattle.big_endian.specs.Reading.{address_at}
use Rattle.big_endian.proofs.ListsRead.{list_goes_on, list_ends, list_is_done}
use Rattle.lock_table.proofs.decoding.some_addresses.Goals as goal

pub returns-in_default : goal.returns-in_default
returns-in_default c =
    list_ends address_at c.args.count c.loop.counter c.loop.from c.loop.list.items (list_at address_at c.args.count c.args.from.now) c.loop-test.true (rw c.in_default.is at c.address.ensures.gives) c.loop.invariant

pub loop-preserved : goal.loop-preserved
loop-preserved c =
    rw (c.in_ok-push.ensures.items)
    (list_goes_on address_at c.args.count c.loop.counter c.loop.from c.loop.list.items c.in-Some.address c.address.new.self (list_at address_at c.args.count c.args.from.now) c.loop-test.true
    (rw c.in-Some.is at c.address.ensures.gives) c.loop.invariant)

pub returns : goal.returns
returns c = list_is_done address_at c.args.count c.loop.counter c.loop.from c.loop.list.items (list_at address_at c.args.count c.args.from.now) c.loop-test.false c.loop.invariant
