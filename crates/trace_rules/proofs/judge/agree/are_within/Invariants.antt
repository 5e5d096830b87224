use Rattle.std.proofs.Common.{◌≡◌, drop}
use Rattle.trace_rules.specs.Judged.{lies_within}
use Rattle.trace_rules.proofs.judge.agree.are_within.Given as goal

-- those so far are within
abbrev pub invariant-loop-address : goal.invariant-loop-address
invariant-loop-address l = lies_within l.inner l.outer ≡ lies_within (drop l.address-index l.inner) l.outer
