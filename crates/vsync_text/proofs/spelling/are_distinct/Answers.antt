use Rattle.std.proofs.Common.{sym, arith, rules}
use Rattle.std.specs.BTreeSet.{contains}
use Rattle.address.specs.Ids.{address_cmp}
use Rattle.vsync_text.proofs.AddressesDistinct.{one_more_seen, seen_again}
use Rattle.vsync_text.proofs.spelling.are_distinct.Goals as goal

pub returns-then-not-branch : goal.returns-then-not-branch
returns-then-not-branch c =
    sym (seen_again (contains address_cmp c.loop-address.seen) _ _ c.address-item.result c.in_ok-insert.field-0 (omega arith) c.address-item.is c.loop-address.invariant
    c.in_ok-insert.ensures.added (search rules))

pub loop-address-preserved : goal.loop-address-preserved
loop-address-preserved c =
    one_more_seen (contains address_cmp c.loop-address.seen) _ _ _ c.address-item.result c.in_ok-insert.field-0 (omega arith) c.address-item.is c.loop-address.invariant
    c.in_ok-insert.ensures.added (search rules) c.in_ok-insert.ensures.updates.0
