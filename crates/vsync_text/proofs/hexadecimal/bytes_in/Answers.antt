use Rattle.std.proofs.Common.{length, ap, arith}
use Rattle.vsync_text.proofs.ListsAreRead.{none_yet, byte_read}
use Rattle.vsync_text.proofs.hexadecimal.bytes_in.Goals as goal

pub loop-high-init : goal.loop-high-init
loop-high-init c = record { read = none_yet _ _ c.in_ok-bytes.ensures.items; room = omega (arith, c.in_ok-bytes.ensures.len, c.in_ok-bytes.ensures.capacity) }

pub push_reserved-requires : goal.push_reserved-requires
push_reserved-requires c = omega (arith, c.loop-high.invariant.room, ap length c.in-Some.ensures.cases.0, ap length c.in-Some-split_first.ensures.cases.0)

pub loop-high-smaller : goal.loop-high-smaller
loop-high-smaller c = omega (arith, ap length c.in-Some.ensures.cases.0, ap length c.in-Some-split_first.ensures.cases.0)

pub loop-high-preserved : goal.loop-high-preserved
loop-high-preserved c = record {
  read = byte_read _ _ _ _ _ _ _ _ _ c.loop-high.invariant.read c.in-Some.ensures.cases.0 c.in-Some-split_first.ensures.cases.0 c.in-Some-hex_byte.ensures c.push_reserved.ensures.items;
  room = omega (arith, ap length c.in-Some.ensures.cases.0, ap length c.in-Some-split_first.ensures.cases.0);
}
