use Rattle.std.proofs.Common.{◌≡◌, drop}
use Rattle.std.specs.List.{position_from}
use Rattle.trace_merge.specs.Facts.{is_shown}
use Rattle.trace_merge.proofs.merging.first_showing.Given as goal

-- none so far shows it
abbrev pub invariant-loop-process : goal.invariant-loop-process
invariant-loop-process l = position_from (λ events. is_shown events.now l.fact) 0 l.left ≡ position_from (λ events. is_shown events.now l.fact) l.process (drop l.process l.left)
