use Rattle.std.proofs.Common.{◌≡◌, ◌≤◌, ◌+◌, ◌*◌, ◌++◌, take, drop, length, vec_len, vec_capacity}
use Rattle.std.specs.List.{flat_map, AllByRecursion}
use Rattle.address.specs.Ids.{IsAddress}
use Rattle.big_endian.specs.Spelled.{address_bytes}
use Rattle.lock_table.proofs.encoding.put_addresses.Given as goal

-- the addresses so far are put, and there is room for the others
abbrev pub invariant-loop-address : goal.invariant-loop-address
invariant-loop-address l = record {
  put : l.out.items ≡ l.fn.out.items ++ flat_map address_bytes (take l.address-index l.list);
  room : vec_len l.out + 6 * length (drop l.address-index l.list) ≤ vec_capacity l.out;
  grown : vec_capacity l.fn.out ≤ vec_capacity l.out;
  fits : AllByRecursion IsAddress (take l.address-index l.list);
}
