use Rattle.std.proofs.Common.{◌≡◌, take}
use Rattle.wire_values.proofs.members.Members.from_slice.Given as goal

-- the addresses so far
abbrev pub invariant-loop-address : goal.invariant-loop-address
invariant-loop-address l = l.members ≡ take l.address-index l.addresses
