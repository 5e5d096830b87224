use Rattle.std.proofs.Common.{◌≡◌, ◌++◌, length}
use Rattle.commands.specs.MemberTexts.{told_of_trace}
use Rattle.commands.proofs.member_texts.told_of_trace.Given as goal

-- what was told so far, and what is told of the rest, is what is told of all
abbrev pub invariant-loop-rest : goal.invariant-loop-rest
invariant-loop-rest l = l.told.items ++ told_of_trace l.rest ≡ told_of_trace l.text

abbrev pub decreases-loop-rest : goal.decreases-loop-rest
decreases-loop-rest l = length l.rest
