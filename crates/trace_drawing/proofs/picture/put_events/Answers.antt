use Rattle.std.proofs.Common.{None, false, refl, arith}
use Rattle.trace_drawing.proofs.TextsDrawn.{groups-next}
use Rattle.trace_drawing.proofs.picture.put_events.Goals as goal

-- one event more
pub loop-number-preserved : goal.loop-number-preserved
loop-number-preserved c whole = (let so_far = c.loop-number.invariant (c.put_event.ensures.whole whole) in (
  so_far.0,
  groups-next c.args.rows.now c.args.events.now c.loop-number.number _ (record { column = 0; level = 0; before = None; blocked = false; origin = None }) c.index-events-number.result
      c.loop-number.out.items c.put_event.new.out.items _ refl c.index-events-number.is c.loop-number-test.true (omega (arith, c.requires.events, c.loop-number-test.true))
      so_far.1 (c.put_event.ensures.text whole),
))
