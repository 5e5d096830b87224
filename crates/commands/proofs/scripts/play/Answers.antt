use Rattle.world.specs.Worlds.{shown}
use Rattle.commands.proofs.RunsPrint.{played}
use Rattle.commands.proofs.scripts.play.Goals as goal

pub returns : goal.returns
returns g c =
    played g.R.Receiver.meaning c.args.script.now _ _ (shown c.new-world.result) (shown c.run.new.self) c.is_ok-ran.result c.run.result c.run.ensures.some.0 _ _ _
    c.lines.ensures c.events.ensures c.new-world.ensures
    (record { faithful = c.run.ensures.faithful; ordered = c.run.ensures.ordered; synchronous = c.run.ensures.synchronous; agreeing = c.run.ensures.agreeing })
    c.run.ensures.some.1 c.run.ensures.all c.is_ok-ran.ensures.value c.print_run.ensures
