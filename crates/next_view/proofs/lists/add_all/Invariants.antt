use Rattle.std.proofs.Common.{◌≡◌, take}
use Rattle.std.specs.Prelude.{fold}
use Rattle.next_view.specs.Candidates.{with_one}
use Rattle.next_view.proofs.lists.add_all.Given as goal

-- those of the list so far are added
abbrev pub invariant-loop-address : goal.invariant-loop-address
invariant-loop-address l = l.found.items ≡ fold (with_one l.suspects) l.fn.found.items (take l.address-index l.list)
