use Rattle.std.proofs.Common.{subst, List}
use Rattle.world_model.specs.declared.WorldEvent.{WorldEvent}
use Rattle.world.specs.Worlds.{Runs, shown}
use Rattle.std.proofs.lemmas.Result.{on_ok_weaker}
use Rattle.commands.proofs.AsidesGrow.{one-ran}
use Rattle.commands.proofs.asides.play_alone.Goals as goal

-- a run of one event
pub returns-clause-step : goal.returns-clause-step
returns-clause-step g c = on_ok_weaker c.add.result
    (λ added. one-ran g.R.Receiver.meaning _ _ c.args.event.now
    (subst (λ (l : List WorldEvent). Runs g.R.Receiver.meaning (shown c.args.world.now) l (shown c.run.new.self)) c.from_ref.ensures.value c.in_ok-run.ensures.all))
    c.add.ensures
