use Rattle.std.proofs.Common.{◌≡◌, ◌||◌, take}
use Rattle.std.specs.HashSet.{contains}
use Rattle.trace_merge.specs.declared.fact.Fact.{Fact}
use Rattle.trace_merge.specs.Facts.{same_fact, is_shown}
use Rattle.trace_merge.proofs.merging.show_all.Given as goal

-- what the events so far show
abbrev pub invariant-loop-event : goal.invariant-loop-event
invariant-loop-event l = (f : Fact) → contains same_fact l.facts f ≡ (is_shown (take l.event-index l.events) f || contains same_fact l.initial.facts f)
