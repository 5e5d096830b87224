use Rattle.std.proofs.Common.{take_all}
use Rattle.world.specs.Worlds.{shown}
use Rattle.commands.proofs.AsidesGrow.{none-beside, more-beside, all-beside}
use Rattle.commands.proofs.asides.play_events.Goals as goal

-- no event yet
pub loop-index-init : goal.loop-index-init
loop-index-init g c = (
  none-beside g.R.Receiver.meaning c.args.packets c.args.lines.now c.args.events.now (shown c.args.world.now) _ _ c.requires.new c.in_ok-run.ensures.all c.requires.none,
  record { faithful = c.run.ensures.faithful; ordered = c.run.ensures.ordered; synchronous = c.run.ensures.synchronous; agreeing = c.run.ensures.agreeing },
)

-- one event more
pub loop-index-preserved : goal.loop-index-preserved
loop-index-preserved g c = (
  more-beside g.R.Receiver.meaning c.args.packets c.args.lines.now c.args.events.now c.loop-index.index c.line_at.result c.index-events-index.result (shown c.loop-index.world) (shown c.play_event.new.world)
      c.loop-index.asides.items c.play_event.new.asides.items c.loop-index-test.true c.index-events-index.is c.loop-index.invariant.0 c.in_ok-play_event.ensures.step c.line_at.ensures c.in_ok-play_event.ensures.asides,
  (let (faithful, ordered, synchronous, agreeing) = c.in_ok-play_event.ensures.sound in record { faithful = faithful; ordered = ordered; synchronous = synchronous; agreeing = agreeing }),
)

-- there is no other event
pub returns-clause-asides : goal.returns-clause-asides
returns-clause-asides g c = all-beside g.R.Receiver.meaning c.args.packets c.args.lines.now c.args.events.now c.loop-index.index _ _ (take_all c.loop-index.index c.args.events.now c.loop-index-test.false) c.loop-index.invariant.0
