use Rattle.std.proofs.Common.{take, not, ◌≡◌, ◌++◌}
use Rattle.std.specs.Prelude.{filter}
use Rattle.view.specs.Members.{stands_in}
use Rattle.member.proofs.watching.add_listed.Given as goal

abbrev pub invariant-loop-member : goal.invariant-loop-member
invariant-loop-member l = l.others.items ≡ l.initial.others.items ++ filter (λ p. not (stands_in p l.fn.view.members)) (take l.member-index l.member-items)
