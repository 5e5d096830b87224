use Rattle.std.proofs.Common.{◌≡◌, ◌≤◌, ◌++◌, length}
use Rattle.std.specs.Vec.Iter.{into_iter_items}
use Rattle.trace_props.specs.Recorded.{IsRecordable}
use Rattle.world.proofs.node_state.record_all.Given as goal

-- what happened so far is recorded, and there is room for the rest
abbrev pub invariant-loop-event : goal.invariant-loop-event
invariant-loop-event l = record {
  can : (goal.iterator-loop-event).can_next l.event-iterator;
  ends : (goal.iterator-loop-event).is_finite l.event-iterator;
  put : l.trace.events ++ into_iter_items l.event-iterator ≡ l.initial.trace.events ++ into_iter_items l.initial.event-iterator;
  room : length (into_iter_items l.event-iterator) ≤ l.trace.room;
  short : IsRecordable (into_iter_items l.event-iterator);
}
