use Rattle.byteorder.specs.Endian.{big_bytes}
use Rattle.keyed_state.specs.Keys.{key_bytes}
use Rattle.keyed_state.specs.Spelling.{view_id_bytes}
use Rattle.keyed_state.proofs.PartsAppend.{three-parts}
use Rattle.lock_table.proofs.encoding.put_command.Goals as goal

pub returns-in-Acquire-clause-items : goal.returns-in-Acquire-clause-items
returns-in-Acquire-clause-items c =
    rw c.in-Acquire.is
    (three-parts c.args.out.now.items (big_bytes 1 1) (view_id_bytes c.in-Acquire.view) (key_bytes c.in-Acquire.name) c.put_u8.new.out.items c.put_view_id.new.out.items c.put_key.new.out.items
    c.put_u8.ensures.items c.put_view_id.ensures.items (rw c.as_slice.ensures.bytes at c.put_key.ensures.items))

pub returns-in-Release-clause-items : goal.returns-in-Release-clause-items
returns-in-Release-clause-items c =
    rw c.in-Release.is
    (three-parts c.args.out.now.items (big_bytes 1 2) (view_id_bytes c.in-Release.view) (key_bytes c.in-Release.name) c.put_u8-in-Release.new.out.items c.put_view_id-in-Release.new.out.items c.put_key-in-Release.new.out.items
    c.put_u8-in-Release.ensures.items c.put_view_id-in-Release.ensures.items (rw c.as_slice-in-Release.ensures.bytes at c.put_key-in-Release.ensures.items))

pub returns-in-Roll-clause-items : goal.returns-in-Roll-clause-items
returns-in-Roll-clause-items c = rw c.in-Roll.is c.put_roll.ensures.items
