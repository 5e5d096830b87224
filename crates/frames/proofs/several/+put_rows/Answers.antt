use Rattle.frames.proofs.Ends.{length-rows, longer, room-on, rows-on}
use Rattle.std.proofs.Common.{arith, refl}
use Rattle.byteorder.specs.Endian.{big_bytes}
use Rattle.frames.proofs.several.+put_rows.Goals as goal

pub returns-clause-items : goal.returns-clause-items
returns-clause-items t c =
    rows-on c.args.variants.now c.in-Some.rest.now c.in-Some.first.now c.number.result c.args.out.now.items c.put_u16.new.out.items c.put.new.out.items c.put_rows.new.out.items
    c.in-Some.ensures.cases.0 c.number.ensures.value c.put_u16.ensures.items c.put.ensures.items c.put_rows.ensures.items

pub returns-clause-room : goal.returns-clause-room
returns-clause-room t c = room-on _ _ _ _ c.put_u16.ensures.room c.put.ensures.room c.put_rows.ensures.room

pub put_u16-requires : goal.put_u16-requires
put_u16-requires t c = omega (arith, c.requires, length-rows c.args.variants.now c.in-Some.rest.now c.in-Some.first.now c.in-Some.ensures.cases.0)

pub put-requires : goal.put-requires
put-requires t c =
    let two = longer c.args.out.now.items (big_bytes 2 c.number.result) c.put_u16.new.out.items _ 2 c.put_u16.ensures.items refl refl in
    omega (arith, c.requires, length-rows c.args.variants.now c.in-Some.rest.now c.in-Some.first.now c.in-Some.ensures.cases.0, two, c.args.out.now.ok.0, c.put_u16.new.out.ok.0, c.put_u16.ensures.room)
