use Rattle.std.proofs.Common.{◌≡◌, ◌≤◌, length, take}
use Rattle.law_acts.specs.Acts.{others_of}
use Rattle.member.proofs.member.others_listed.Given as goal

abbrev pub invariant-loop-member : goal.invariant-loop-member
invariant-loop-member l = (l.others ≡ length (others_of l.address (take l.member-index l.member-items))) × (l.others ≤ l.member-index)
