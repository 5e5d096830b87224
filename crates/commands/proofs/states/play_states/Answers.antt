use Rattle.world.specs.Worlds.{shown}
use Rattle.commands.specs.States.{state_lines_of}
use Rattle.commands.proofs.RunsPrint.{ran-to-end, stopped}
use Rattle.commands.proofs.states.play_states.Goals as goal

pub returns-in-Ok : goal.returns-in-Ok
returns-in-Ok g c =
    ran-to-end g.A.Receiver.meaning
    (λ h. state_lines_of g.A.Receiver.meaning g.A.Application.line_of h.trace) c.args.script.now _ (shown c.new-world.result) (shown c.run.new.self) _ _ _
    c.events.ensures c.new-world.ensures
    (record { faithful = c.run.ensures.faithful; ordered = c.run.ensures.ordered; synchronous = c.run.ensures.synchronous; agreeing = c.run.ensures.agreeing })
    c.in-Ok.ensures.all c.print_states.ensures

pub returns : goal.returns
returns g c =
    stopped g.A.Receiver.meaning
    (λ h. state_lines_of g.A.Receiver.meaning g.A.Application.line_of h.trace) c.args.script.now _ _ _ c.end_in_memory.ensures
