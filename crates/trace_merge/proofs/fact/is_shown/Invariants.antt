use Rattle.std.proofs.Common.{◌≡◌, drop}
use Rattle.trace_merge.specs.Facts.{is_shown}
use Rattle.trace_merge.proofs.fact.is_shown.Given as goal

-- none so far shows it
abbrev pub invariant-loop-event : goal.invariant-loop-event
invariant-loop-event l = is_shown l.events l.fact ≡ is_shown (drop l.event-index l.events) l.fact
