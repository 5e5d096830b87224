use Rattle.std.proofs.Common.{take, take_all, subst, sym, List}
use Rattle.world_model.specs.declared.WorldEvent.{WorldEvent}
use Rattle.world.specs.Worlds.{WorldModel, IsLonger, Runs, shown}
use Rattle.world.specs.Worlds.Runs.{Still}
use Rattle.world.proofs.EventsInTurn.{runs-on, runs-longer}
use Rattle.world.proofs.World.run.Goals as goal

pub loop-event-init : goal.loop-event-init
loop-event-init g c = Still

pub loop-event-preserved : goal.loop-event-preserved
loop-event-preserved g c =
    runs-on g.R.Receiver.meaning (shown c.args.self.now) (shown c.loop-event.self) (shown c.step.new.self) c.args.events.now
    c.loop-event.event-index c.event-item.result c.loop-event-test.true c.event-item.is c.loop-event.invariant c.in_default.ensures.ok.0

-- the loop ends after the last event
pub returns-clause-all : goal.returns-clause-all
returns-clause-all g c =
    subst (λ (l : List WorldEvent). Runs g.R.Receiver.meaning (shown c.args.self.now) l (shown c.loop-event.self))
    (take_all c.loop-event.event-index c.args.events.now c.loop-event-test.false) c.loop-event.invariant

-- what goes on keeps what was there
pub returns-clause-longer : goal.returns-clause-longer
returns-clause-longer g c =
    runs-longer g.R.Receiver.meaning (shown c.args.self.now) (shown c.loop-event.self) _ c.loop-event.invariant

pub returns-in-Err-clause-longer : goal.returns-in-Err-clause-longer
returns-in-Err-clause-longer g c =
    subst (λ (w : WorldModel _). IsLonger c.args.self.now.history w.history) (sym c.in-Err.ensures.err)
    (runs-longer g.R.Receiver.meaning (shown c.args.self.now) (shown c.loop-event.self) _ c.loop-event.invariant)

-- the event that was refused is not among those that are carried out
pub returns-in-Err-clause-fewer : goal.returns-in-Err-clause-fewer
returns-in-Err-clause-fewer g c = (
  c.loop-event.event-index,
  c.loop-event-test.true,
  subst (λ (w : WorldModel _). Runs g.R.Receiver.meaning (shown c.args.self.now) (take c.loop-event.event-index c.args.events.now) w) (sym c.in-Err.ensures.err) c.loop-event.invariant,
)
