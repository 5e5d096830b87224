use Rattle.std.specs.Vec.Iter.{into_iter_items}
use Rattle.world.proofs.EventsRecorded.{recorded-on, room-on, short-on}
use Rattle.world.proofs.node_state.record_all.Goals as goal

pub loop-event-preserved : goal.loop-event-preserved
loop-event-preserved c = record {
  can = tt;
  ends = tt;
  put = recorded-on c.loop-event.trace.events c.record.new.self.events c.args.trace.now.events (into_iter_items c.into_iter-event-iterator.result) (into_iter_items c.loop-event.event-iterator) (into_iter_items c.next.new.self) c.in-Some.event c.loop-event.invariant.put c.in-Some.ensures.steps.0 c.record.ensures.events;
  room = room-on (into_iter_items c.loop-event.event-iterator) (into_iter_items c.next.new.self) c.in-Some.event c.loop-event.trace.room c.record.new.self.room c.loop-event.invariant.room c.in-Some.ensures.steps.0 c.record.ensures.room;
  short = short-on (into_iter_items c.loop-event.event-iterator) (into_iter_items c.next.new.self) c.in-Some.event c.loop-event.invariant.short c.in-Some.ensures.steps.0;
}
