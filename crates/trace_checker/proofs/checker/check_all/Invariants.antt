use Rattle.std.proofs.Common.{◌≡◌, take}
use Rattle.std.specs.HashMap.{get}
use Rattle.address.specs.Ids.{same_address, same_view_id}
use Rattle.trace_props.specs.Synchrony.{IsVirtuallySynchronous}
use Rattle.trace_rules.specs.Copies.{KnowsStates}
use Rattle.trace_checker.proofs.checker.check_all.Given as goal

-- so far all rules hold, and what is kept is of the events so far
abbrev pub invariant-loop-index : goal.invariant-loop-index
invariant-loop-index g l = record {
  so_far : l.past ≡ take l.index l.events;
  holds : IsVirtuallySynchronous g.R.Receiver.meaning (take l.index l.events);
  known : KnowsStates g.R.Receiver.meaning (get same_address l.states.states) (get same_view_id l.states.entering) (take l.index l.events);
}
