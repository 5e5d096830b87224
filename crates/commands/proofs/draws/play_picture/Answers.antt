use Rattle.trace_props.specs.declared.verdict.Verdict.TheVariants.{Holds}
use Rattle.world.specs.Worlds.{shown}
use Rattle.commands.specs.Draws.{TellsRun}
use Rattle.commands.proofs.AsidesGrow.{ran-beside}
use Rattle.commands.proofs.DrawingsEnd.{drawn-as, unread-as}
use Rattle.commands.proofs.draws.play_picture.Goals as goal

pub returns-in-Ok : goal.returns-in-Ok
returns-in-Ok g c =
    drawn-as (TellsRun g.R.Receiver.meaning c.args.packets c.args.script.now) (λ line fault. ⊥) (shown c.play_events.new.world).history.trace c.as_slice.result.now (shown c.play_events.new.world).history.pool Holds _ _ _
    (ran-beside g.R.Receiver.meaning c.args.packets c.args.script.now c.lines.result.now c.events.result.now (shown c.play_events.new.world) c.play_events.new.asides.items c.as_slice.result.now
    c.lines.ensures c.events.ensures c.as_slice.ensures.value
    (record { faithful = c.in-Ok.ensures.faithful; ordered = c.in-Ok.ensures.ordered; synchronous = c.in-Ok.ensures.synchronous; agreeing = c.in-Ok.ensures.agreeing }) c.in-Ok.ensures.asides)
    c.print_world.ensures

pub returns : goal.returns
returns g c = unread-as (TellsRun g.R.Receiver.meaning c.args.packets c.args.script.now) (λ line fault. ⊥) _ _ _ c.end_undrawn.ensures
