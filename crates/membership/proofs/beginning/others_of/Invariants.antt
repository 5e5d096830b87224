use Rattle.std.proofs.Common.{◌≡◌, take}
use Rattle.law_acts.specs.Acts.{others_of}
use Rattle.membership.proofs.beginning.others_of.Given as goal

abbrev pub invariant-loop-member : goal.invariant-loop-member
invariant-loop-member l = l.others.items ≡ others_of l.me (take l.member-index l.list)
