use Rattle.std.proofs.Common.{take}
use Rattle.std.specs.BTreeSet.{contains}
use Rattle.address.specs.Ids.{address_cmp}
use Rattle.vsync_text.proofs.AddressesDistinct.{SeenOnce}
use Rattle.vsync_text.proofs.spelling.are_distinct.Given as goal

-- the addresses so far were seen, and are distinct
abbrev pub invariant-loop-address : goal.invariant-loop-address
invariant-loop-address l = SeenOnce (contains address_cmp l.seen) (take l.address-index l.addresses)
