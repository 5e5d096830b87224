use Rattle.std.proofs.Common.{◌≡◌, take}
use Rattle.std.specs.Prelude.{filter}
use Rattle.next_view.specs.Candidates.{is_current}
use Rattle.next_view.proofs.lists.all_current.Given as goal

-- those of the list so far are left
abbrev pub invariant-loop-address : goal.invariant-loop-address
invariant-loop-address l = l.left.items ≡ filter (is_current l.me l.list) (take l.address-index l.list)
