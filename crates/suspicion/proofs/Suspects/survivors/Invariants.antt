use Rattle.std.proofs.Common.{◌≡◌, take}
use Rattle.suspicion.specs.Suspicion.{survivors_of}
use Rattle.suspicion.proofs.Suspects.survivors.Given as goal

-- those of the members so far are left
abbrev pub invariant-loop-member : goal.invariant-loop-member
invariant-loop-member l = l.left.items ≡ survivors_of l.self (take l.member-index l.view.members)
