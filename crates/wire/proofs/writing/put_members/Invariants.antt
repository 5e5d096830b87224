use Rattle.std.proofs.Common.{◌≡◌, ◌≤◌, ◌+◌, ◌++◌, take, drop, length, vec_len, vec_capacity}
use Rattle.std.specs.List.{flat_map, AllByRecursion}
use Rattle.byteorder.specs.Endian.{big_bytes}
use Rattle.wire_values.specs.Fields.{IsAddress, address_bytes}
use Rattle.wire.proofs.writing.put_members.Given as goal

-- the addresses so far are put, and there is room for the others
abbrev pub invariant-loop-address : goal.invariant-loop-address
invariant-loop-address l = record {
  put : l.out.items ≡ l.fn.out.items ++ big_bytes 1 (length l.addresses) ++ flat_map address_bytes (take l.address-index l.addresses);
  room : vec_len l.out + length (flat_map address_bytes (drop l.address-index l.addresses)) ≤ vec_capacity l.out;
  grown : vec_capacity l.fn.out ≤ vec_capacity l.out;
  fits : AllByRecursion IsAddress (take l.address-index l.addresses);
}
